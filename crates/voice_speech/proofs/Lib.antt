pub mod OneAfterTheOther
pub mod Answering
