pub mod Offering
