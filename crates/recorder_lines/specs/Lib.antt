pub mod Wants
pub mod Laws
