pub mod Hosting
pub mod Outcome
pub mod Started
pub mod Threads
