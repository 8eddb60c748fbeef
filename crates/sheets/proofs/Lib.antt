pub mod Bodies
pub mod Standing
pub mod Readings
