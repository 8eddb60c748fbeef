pub mod Blocks
pub mod Methods
pub mod Sectors
