pub mod HeardLemmas
pub mod JudgedLemmas
pub mod RecordLemmas
pub mod TraceLemmas
