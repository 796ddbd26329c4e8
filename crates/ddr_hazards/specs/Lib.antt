pub mod Banks
pub mod Counts
pub mod Hazards
pub mod PendingList
pub mod Slots
pub mod View
