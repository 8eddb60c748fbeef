pub mod Pieces
pub mod Reports
pub mod Telling
