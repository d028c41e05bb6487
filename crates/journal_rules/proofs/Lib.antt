pub mod Gapless
pub mod Numbers
pub mod Readings
pub mod Records
pub mod RoundTrips
pub mod Zeros
