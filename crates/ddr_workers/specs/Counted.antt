-- What the lists of a port say together: which numbers it pushed, and which it got back.
use Rattle.std.specs.Prelude.{◌≡◌, ℕ, false, List, ◌++◌, All, map, filter, flat_map, is_some, Some, slice_get, sum_by}
use Rattle.std.specs.List.{range_with_len}
use Rattle.ddr_reorder.specs.State.{Outstanding, IsWithinLine}
use Rattle.ddr_world.specs.declared.item.Item.{Item}
use Rattle.ddr_workers.specs.declared.requests.Route.{Route}
use Rattle.ddr_workers.specs.Port.{PortState}
use Rattle.ddr_workers.specs.Sides.{PutSide}
use Rattle.ddr_workers.specs.Worker.{requests_of}

-- the same numbers, each as often: every sum over the one list is that over the other
abbrev pub AreAlike : List ℕ → List ℕ → Type 0
AreAlike xs ys = (f : ℕ → ℕ) → sum_by f xs ≡ sum_by f ys

-- the numbers of the requests that were pushed, channel by channel
abbrev pub numbers_put : List (PutSide Route Item) → List ℕ
numbers_put sides = flat_map (λ side. map (λ r. r.number) (requests_of side.put)) sides

-- the outstanding numbers whose lines have come back
abbrev pub numbers_filled : List Outstanding → List ℕ
numbers_filled os = map (λ o. o.number) (filter (λ o. is_some o.line) os)

-- what is asked for on a side lies in one line, request by request
abbrev pub AreWithinLines : PutSide Route Item → Type 0
AreWithinLines side = All (λ r. IsWithinLine r.echo) (requests_of side.put)

pub record IsCounted (s : PortState) : Type 0 where
  -- the numbers that were pushed are those below the next one, each once
  pub asked : AreAlike (numbers_put s.requests) (range_with_len 0 s.core.reorder.next)
  pub within : (c : ℕ) (side : PutSide Route Item) → slice_get s.requests c ≡ Some side → AreWithinLines side
  -- those that came back are those that were given up and those that stand ready, each once
  pub got : s.broken ≡ false → AreAlike (map (λ d. d.number) s.completions.took) (range_with_len 0 s.taken ++ numbers_filled s.core.reorder.outstanding)
