pub mod AllLemmas
pub mod SideLemmas
mod StepLemmas
mod StandsLemmas
mod WholeLemmas
mod SubmitLemmas
mod OpenLemmas
pub mod LineBytes
pub mod CoreKeeps
pub mod CoreCounts
pub mod CoreFrames
pub mod CoreReplies
pub mod CoreServed
pub mod PlaceLemmas
pub mod CoreEvents
pub mod CoreSubmit
pub mod CoreRuns
pub mod CoreIdle
pub mod CorePromise
mod RecordLemmas
pub mod QuietLemmas
