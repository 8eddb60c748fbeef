pub mod Media
pub mod Spared
pub mod Limits
pub mod Places
pub mod Sparing
