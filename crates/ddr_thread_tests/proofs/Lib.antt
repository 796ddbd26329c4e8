pub mod RunLemmas
pub mod TwoSideLemmas
