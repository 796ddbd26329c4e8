-- What the data bus was used for. Each request is a line and a burst on its channel's data bus.
use Rattle.std.specs.Prelude.{ℕ, ◌-◌, ◌*◌, ◌/◌, ◌^◌, ◌==◌, min, max, if◌then◌else◌, List, [], ◌∷◌, length, fold}
use Rattle.ddr_timing.specs.declared.units.TheConstants.{BURST_CLOCKS, LINE_BYTES}
use Rattle.ddr_measure.specs.declared.timed.Timed.{Timed}
use Rattle.ddr_measure.specs.declared.usage.TheConstants.{SECOND}
use Rattle.ddr_measure.specs.declared.usage.Usage.{Usage}

-- the first of this cycle and those in which these were accepted
abbrev pub earliest_from : ℕ → List Timed → ℕ
earliest_from first requests = fold (λ earliest request. min earliest request.accepted) first requests

abbrev pub earliest_of : List Timed → ℕ
earliest_of [] = 0
earliest_of (first ∷ more) = earliest_from first.accepted more

-- the last in which a reply of these was given
abbrev pub latest_of : List Timed → ℕ
latest_of requests = fold (λ latest request. max latest request.released) 0 requests

-- the number of them stops at the last one that a u64 holds
abbrev pub usage_of : List Timed → Usage
usage_of requests = record { requests = min (length requests) (2 ^ 64 - 1); earliest = earliest_of requests; latest = latest_of requests }

-- the clocks from the first acceptance to the last reply
abbrev pub elapsed : Usage → ℕ
elapsed usage = usage.latest - usage.earliest

-- the whole part of a quotient, 0 where there is none
abbrev pub quotient : ℕ → ℕ → ℕ
quotient number by = if by == 0 then 0 else number / by

-- thousandths of the data buses of so many channels
abbrev pub share_of : ℕ → Usage → ℕ
share_of channels usage = quotient (1000 * (BURST_CLOCKS * usage.requests)) (channels * elapsed usage)

-- bytes a second, where a clock has so many picoseconds: of the requests, and of so many channels at most
abbrev pub speed_of : ℕ → Usage → ℕ
speed_of clock usage = quotient (SECOND * (LINE_BYTES * usage.requests)) (clock * elapsed usage)

abbrev pub peak_of : ℕ → ℕ → ℕ
peak_of channels clock = quotient (SECOND * (LINE_BYTES * channels)) (BURST_CLOCKS * clock)
