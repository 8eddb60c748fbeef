pub mod Records
pub mod Reading
pub mod Sheets
