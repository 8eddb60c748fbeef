pub mod Stores
pub mod Layers
