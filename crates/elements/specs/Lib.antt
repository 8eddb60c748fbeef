pub mod Degrees
pub mod Endian
pub mod Field
pub mod Operations
pub mod Values
pub mod Instances
pub mod Powers
pub mod Transport
