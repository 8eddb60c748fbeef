pub mod Expansion
pub mod Published
pub mod Rules
mod Table
