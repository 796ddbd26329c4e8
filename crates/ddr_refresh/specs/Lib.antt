pub mod Fields
pub mod Refreshes
pub mod View
