pub mod View
pub mod Numbers
