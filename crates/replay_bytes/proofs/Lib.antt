pub mod Puts
pub mod Telling
pub mod Twos
