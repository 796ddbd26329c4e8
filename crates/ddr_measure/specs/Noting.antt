-- How intervals are gathered: a request and a clock after the other.
use Rattle.std.specs.Prelude.{◌≡◌, ℕ, ◌/◌, ◌<◌, List, [], ◌∷◌, ◌++◌, fold, length, slice_index_or, slice_set}
use Rattle.ddr_statistics.specs.Noted.{raised}
use Rattle.ddr_measure.specs.Intervals.{Interval, interval_at}
use Rattle.ddr_measure.specs.declared.timed.Timed.{Timed}

abbrev pub no_interval : Interval
no_interval = record { requests = []; busy = 0 }

-- a request more in the interval of this number
abbrev pub with_request : ℕ → Timed → List Interval → List Interval
with_request at request intervals =
    let old = slice_index_or intervals at no_interval in
    slice_set intervals at (record old { requests = old.requests ++ request ∷ [] })

-- a clock more of a burst
abbrev pub with_clock : ℕ → ℕ → List Interval → List Interval
with_clock every clock intervals =
    let old = slice_index_or intervals (clock / every) no_interval in
    slice_set intervals (clock / every) (record old { busy = raised 1 old.busy })

-- all of these clocks more
abbrev pub with_clocks : ℕ → List ℕ → List Interval → List Interval
with_clocks every clocks intervals = fold (λ all clock. with_clock every clock all) intervals clocks

-- each is what these requests come to
abbrev pub AreIntervals : ℕ → List Timed → List Interval → Type 0
AreIntervals every requests intervals = (at : ℕ) → at < length intervals → slice_index_or intervals at no_interval ≡ interval_at every requests at
