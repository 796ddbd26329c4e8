pub mod Bus
pub mod Columns
pub mod Followed
pub mod BusReadiness
pub mod Kept
pub mod OnePass
pub mod Refreshes
pub mod View
