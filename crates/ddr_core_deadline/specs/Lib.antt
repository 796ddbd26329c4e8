pub mod InCore
pub mod InRounds
