mod BackgroundLemmas
pub mod CountLemmas
mod DebtLemmas
pub mod FindingLemmas
pub mod PlaceLemmas
pub mod StandLemmas
pub mod SumLemmas
pub mod TextLemmas
