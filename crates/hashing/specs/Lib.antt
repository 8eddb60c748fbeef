pub mod Choice
pub mod Hashes
