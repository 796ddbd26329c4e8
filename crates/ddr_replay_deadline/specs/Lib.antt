pub mod InReplay
pub mod Rows
pub mod Waits
