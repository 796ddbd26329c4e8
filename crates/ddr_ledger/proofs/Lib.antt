mod NumberLemmas
mod SumLemmas
mod WaitedLemmas
