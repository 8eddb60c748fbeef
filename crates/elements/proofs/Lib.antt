pub mod Endians
pub mod Masks
pub mod Reduction
pub mod Made
