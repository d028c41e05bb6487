pub mod Ways
pub mod Agree
pub mod Walked
pub mod States
pub mod Cheapest
pub mod Places
pub mod Nearest
