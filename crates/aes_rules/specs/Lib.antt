pub mod Aes
pub mod Tables
pub mod Vectors
