pub mod Rows
pub mod Grid
pub mod Promises
pub mod Streams
