pub mod Table
pub mod OneProof
pub mod StandIn
pub mod Convolution
pub mod Checksum
pub mod Word
pub mod Statements
