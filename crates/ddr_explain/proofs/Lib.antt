pub mod AllLemmas
pub mod CleanLemmas
pub mod ExplainLemmas
pub mod ReasonLemmas
pub mod TableLemmas
