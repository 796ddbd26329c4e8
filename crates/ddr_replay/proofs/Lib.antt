mod ActivityLemmas
mod AheadLemmas
pub mod BooksLemmas
mod PortLemmas
mod QuietLemmas
mod ReleaseLemmas
mod ReplayLemmas
pub mod RoundLemmas
mod RunLemmas
mod SubmitLemmas
mod TakenLemmas
mod TellingLemmas
mod ToldLemmas
mod TurnLemmas
mod WaitLemmas
mod WaitedLemmas
mod WholeLemmas
