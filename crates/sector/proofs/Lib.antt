pub mod Bytes
pub mod Examples
pub mod Lengths
pub mod Loops
pub mod Restores
