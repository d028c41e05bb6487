pub mod SoftTrials
pub mod Turns
