-- Intervals of so many cycles: which requests were complete in each, and how long the data buses were busy in it.
use Rattle.std.specs.Prelude.{ℕ, ◌+◌, ◌-◌, ◌/◌, ◌==◌, max, if◌then◌else◌, List, [], ◌∷◌, filter, flat_map, fold}
use Rattle.ddr_statistics.specs.Noted.{raised}
use Rattle.ddr_measure.specs.declared.timed.Timed.{Timed}

pub record Interval : Type 0 where
  -- the requests that were complete in it, in their order
  pub requests : List Timed
  -- how many of its clocks had a burst, of all data buses together
  pub busy : ℕ

-- the last cycle in which one of them was complete, 0 where there is none
abbrev pub last_done : List Timed → ℕ
last_done requests = fold (λ last request. max last request.done) 0 requests

-- how many intervals there are, up to that of the last completion
abbrev pub count_of : ℕ → List Timed → ℕ
count_of every [] = 0
count_of every (first ∷ more) = last_done (first ∷ more) / every + 1

-- the clocks of a request's burst: the last four before it was complete
abbrev pub burst_of : Timed → List ℕ
burst_of request = (request.done - 4) ∷ (request.done - 3) ∷ (request.done - 2) ∷ (request.done - 1) ∷ []

-- the interval of this number
abbrev pub interval_at : ℕ → List Timed → ℕ → Interval
interval_at every requests at = record {
  requests = filter (λ request. request.done / every == at) requests;
  busy = fold (λ busy clock. if clock / every == at then raised 1 busy else busy) 0 (flat_map burst_of requests);
}
