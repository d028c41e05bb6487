pub mod Merges
pub mod Kinds
