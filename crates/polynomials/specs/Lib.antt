pub mod Blocks
pub mod Degrees
pub mod Sums
