pub mod Field
pub mod Textbook
pub mod Statements
