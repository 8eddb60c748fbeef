pub mod Calls
pub mod Steps
pub mod Law
pub mod Consequences
pub mod Laid
