pub mod Walking
pub mod Histories
