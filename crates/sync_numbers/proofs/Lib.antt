pub mod Pendings
pub mod Slipping
pub mod Sents
