pub mod Replies
pub mod Sound
pub mod State
pub mod View
