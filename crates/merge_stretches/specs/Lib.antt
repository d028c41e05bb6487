pub mod Stretches
pub mod Statements
