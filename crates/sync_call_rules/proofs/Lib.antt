pub mod Feeding
pub mod Slots
pub mod Shown
pub mod Histories
pub mod Ends
pub mod Moved
pub mod Wholes
