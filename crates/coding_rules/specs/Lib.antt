pub mod Crc
pub mod Scramble
pub mod Sequence
pub mod Calls
pub mod Statements
