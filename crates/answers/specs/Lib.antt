pub mod Kinds
pub mod Reading
pub mod Rendering
pub mod Views
