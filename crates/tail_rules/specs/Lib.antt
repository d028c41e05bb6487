pub mod Code
pub mod Steps
pub mod Massey
pub mod Encode
pub mod MakingStatements
pub mod Repair
pub mod Calls
pub mod RepairStatements
