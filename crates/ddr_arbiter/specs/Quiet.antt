-- For how long nothing is chosen, as long as nothing is admitted, served or completed.
use Rattle.std.specs.Prelude.{◌≡◌, ℕ, ◌+◌, ◌<◌, map}
use Rattle.ddr_legality.specs.Bus.{passed}
use Rattle.ddr_refresh.specs.Refreshes.{after_ticks}
use Rattle.ddr_arbiter.specs.declared.choice.Choice.TheVariants as choice
use Rattle.ddr_arbiter.specs.Choice.{choice_of}
use Rattle.ddr_arbiter.specs.Situation.{Situation}

-- what the scheduler finds so many cycles later, where no command was issued in them
abbrev pub later : ℕ → Situation → Situation
later count s = record s { bus = passed count s.bus; refreshes = map (after_ticks count) s.refreshes }

-- in each cycle from now on that is before this one nothing is chosen
abbrev pub IsQuietUntil : ℕ → Situation → Type 0
IsQuietUntil end s = (count : ℕ) → s.bus.now + count < end → choice_of (later count s) ≡ choice.Nothing
