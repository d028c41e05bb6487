pub mod Speaking
pub mod Making
