pub mod Names
pub mod Limits
pub mod Sentences
pub mod Reasons
pub mod Explained
pub mod AllFaults
pub mod Table
pub mod AllChecked
