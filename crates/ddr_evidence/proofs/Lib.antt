pub mod BackLemmas
pub mod FindLemmas
pub mod PlaceLemmas
pub mod RecentLemmas
