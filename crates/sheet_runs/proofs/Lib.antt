pub mod Places
pub mod Sanity
pub mod Storing
pub mod Finishing
