pub mod Heard
pub mod Opened
