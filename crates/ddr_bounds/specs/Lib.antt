pub mod Columns
pub mod Overtakers
