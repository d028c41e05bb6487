pub mod Measured
pub mod CandidateCheck
pub mod Tried
