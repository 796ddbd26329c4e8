-- Which ranks have to be refreshed.
use Rattle.std.specs.Prelude.{◌≡◌, ℕ, ◌<◌, Bool, List, Some, slice_get}
use Rattle.std.specs.List.{list_any, range_with_len}
use Rattle.ddr_timing.specs.declared.units.TheConstants.{MOST_RANKS}
use Rattle.ddr_hazards.specs.declared.waiting.Waiting.{Waiting}
use Rattle.ddr_refresh.specs.Refreshes.{Refreshes}
use Rattle.ddr_arbiter.specs.Choice.{is_rank_forced}

-- some rank has to be refreshed
abbrev pub must_refresh : List Waiting → List Refreshes → Bool
must_refresh waiting refreshes = list_any (is_rank_forced waiting refreshes) (range_with_len 0 MOST_RANKS)

-- each rank that there may be has the mark that tells whether it is forced
abbrev pub AreForced : List Waiting → List Refreshes → List Bool → Type 0
AreForced waiting refreshes marks = (rank : ℕ) → rank < MOST_RANKS → slice_get marks rank ≡ Some (is_rank_forced waiting refreshes rank)
