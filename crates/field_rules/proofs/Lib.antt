pub mod Products
pub mod TableRules
pub mod Laws
pub mod Textbook
pub mod Rows
