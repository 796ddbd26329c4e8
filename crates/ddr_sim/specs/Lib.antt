pub mod Quiet
pub mod Refusals
pub mod Rounds
pub mod Runs
pub mod Sims
pub mod Simulated
