pub mod Forwards
pub mod Rows
