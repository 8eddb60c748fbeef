pub mod Enciphered
pub mod Windowed
