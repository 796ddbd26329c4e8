pub mod Map
pub mod Requests
