pub mod Firsts
pub mod Searches
pub mod Bringing
