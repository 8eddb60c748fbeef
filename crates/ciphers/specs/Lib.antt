pub mod Aes
pub mod Choice
pub mod Speck
pub mod SpeckViews
pub mod Vectors
