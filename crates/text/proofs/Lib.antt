pub mod Decimals
pub mod Digits
pub mod Hexes
pub mod Renderings
pub mod Spaces
