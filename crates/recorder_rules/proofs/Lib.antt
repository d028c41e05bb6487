pub mod Laying
pub mod Lines
pub mod Rising
pub mod Feeding
pub mod Going
pub mod Histories
pub mod Passing
pub mod Journals
