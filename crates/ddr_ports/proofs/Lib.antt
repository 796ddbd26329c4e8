pub mod Masks
pub mod Writes
