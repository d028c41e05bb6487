pub mod Record
pub mod Reading
pub mod Gaps
pub mod Statements
