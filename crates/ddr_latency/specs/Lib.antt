pub mod Bound
pub mod Latency
