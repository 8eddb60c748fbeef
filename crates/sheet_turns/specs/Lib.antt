pub mod Settings
pub mod Table
pub mod Since
