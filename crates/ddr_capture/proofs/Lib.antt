mod CutLemmas
mod FeedLemmas
pub mod FrontLemmas
pub mod LineLemmas
mod ReadLemmas
pub mod CaptureLemmas
