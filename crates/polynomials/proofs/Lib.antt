pub mod Bounds
pub mod Brw
pub mod Parts
pub mod Logs
pub mod Horner
