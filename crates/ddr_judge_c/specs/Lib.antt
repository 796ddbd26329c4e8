pub mod Bus
pub mod Calls
pub mod Faults
pub mod Opens
