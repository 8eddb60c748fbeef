pub mod Agreement
pub mod Settings
pub mod Verdicts
