pub mod JobLemmas
pub mod PassLemmas
