pub mod Quiets
pub mod Answering
pub mod Feeding
