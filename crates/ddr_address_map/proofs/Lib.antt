pub mod Radix
pub mod Walk
pub mod MapLemmas
