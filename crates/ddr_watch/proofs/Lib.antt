pub mod KeptLemmas
pub mod FoundLemmas
pub mod CountedLemmas
pub mod NewestLemmas
