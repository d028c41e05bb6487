pub mod Grids
pub mod Streams
pub mod Statements
