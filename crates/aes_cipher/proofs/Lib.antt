mod Rounds
mod Rows
mod Words
