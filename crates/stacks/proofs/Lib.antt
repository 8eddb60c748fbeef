pub mod Nths
pub mod Sectors
pub mod Descents
pub mod Lowered
pub mod Histories
pub mod Turns
pub mod Echoes
