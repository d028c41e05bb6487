pub mod Search
pub mod Shift
