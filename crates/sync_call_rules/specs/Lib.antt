pub mod Feeds
pub mod Calls
pub mod Statements
