pub mod Behind
pub mod InTime
pub mod Legal
pub mod Oldest
pub mod Step
pub mod Wait
