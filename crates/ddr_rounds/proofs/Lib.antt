pub mod ContinueLemmas
pub mod DrainLemmas
pub mod EventLemmas
pub mod PartLemmas
pub mod QuietLemmas
pub mod StepCounts
pub mod TraceLemmas
