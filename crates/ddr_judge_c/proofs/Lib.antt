pub mod HandleLemmas
pub mod OpenLemmas
