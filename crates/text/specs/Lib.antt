pub mod Hex
pub mod Numbers
pub mod Views
pub mod Words
pub mod Writing
