-- What contracts see of the statistics of a trace.
use Rattle.std.specs.Prelude.{ℕ, List}
use Rattle.ddr_timing.specs.declared.geometry.Geometry.{Geometry}
use Rattle.ddr_timing.specs.declared.timing.Timing.{Timing}
use Rattle.ddr_statistics.specs.declared.background.Background.{Background}
use Rattle.ddr_statistics.specs.declared.counts.Counts.{Counts}
use Rattle.ddr_statistics.specs.declared.debt.Debt.{Debt}
use Rattle.ddr_statistics.specs.declared.rank.Rank.{Rank}
use Rattle.ddr_statistics.specs.declared.turns.Turns.{Turns}

pub record Tally : Type 0 where
  pub geometry : Geometry
  pub timing : Timing
  -- the first cycle of the trace
  pub start : ℕ
  -- of the whole channel
  pub total : Counts
  -- of each rank, with its banks
  pub ranks : List Rank
  -- of the refreshes of each rank
  pub debts : List Debt
  -- of the clocks of each rank
  pub backgrounds : List Background
  -- of the data bus
  pub turns : Turns
