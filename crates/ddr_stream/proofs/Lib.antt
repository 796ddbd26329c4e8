pub mod AllLemmas
mod FieldLemmas
mod NextLemmas
mod PlacedLemmas
