pub mod Path
pub mod Statements
pub mod Nearest
