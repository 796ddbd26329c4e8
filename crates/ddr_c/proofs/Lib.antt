pub mod HandleLemmas
pub mod OpenLemmas
pub mod ReplyLemmas
pub mod TraceLemmas
