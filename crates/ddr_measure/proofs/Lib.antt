mod ClassLemmas
mod SumLemmas
mod BandLemmas
mod PercentileLemmas
mod IntervalLemmas
mod SpreadLemmas
