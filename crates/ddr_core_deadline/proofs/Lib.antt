pub mod CallLemmas
pub mod EventLemmas
pub mod NoneLemmas
pub mod RoundLemmas
