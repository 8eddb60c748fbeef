pub mod Following
pub mod Beginnings
