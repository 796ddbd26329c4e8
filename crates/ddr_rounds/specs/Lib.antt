pub mod Continues
pub mod Drains
pub mod Rounds
pub mod Telling
