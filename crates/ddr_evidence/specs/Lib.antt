pub mod Evidence
pub mod Places
pub mod Recent
