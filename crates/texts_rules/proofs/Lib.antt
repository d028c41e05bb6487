pub mod Spelling
pub mod Growing
