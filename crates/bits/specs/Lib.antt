pub mod Bit
pub mod BigEndian
pub mod Polynomials
pub mod Refusals
pub mod Alls
pub mod Sizes
