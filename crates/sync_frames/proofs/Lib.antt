pub mod Fronts
pub mod Framing
pub mod Sending
pub mod Looks
pub mod Drains
