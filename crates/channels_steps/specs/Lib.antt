pub mod Told
pub mod Progresses
