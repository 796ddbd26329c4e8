pub mod FindingLemmas
pub mod LegalLemmas
pub mod NotingLemmas
