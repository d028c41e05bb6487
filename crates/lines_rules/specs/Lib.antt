pub mod Text
pub mod Entries
pub mod Slips
pub mod Statements
