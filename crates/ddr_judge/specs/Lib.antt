pub mod Heard
pub mod Judged
pub mod Records
pub mod Verdict
