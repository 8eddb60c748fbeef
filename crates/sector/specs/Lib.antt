pub mod Inverse
pub mod Marked
pub mod Refusals
pub mod Steps
pub mod Texts
pub mod Transform
