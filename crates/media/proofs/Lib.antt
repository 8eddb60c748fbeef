pub mod Failing
pub mod Placing
