-- The entries that a checker in one pass has passed.
use Rattle.std.specs.Prelude.{ℕ, Bool, ◌&&◌, ◌==◌, if◌then◌else◌, List}
use Rattle.ddr_timing.specs.declared.config.Config.{Config}
use Rattle.ddr_trace.specs.declared.command.Entry.{Entry}
use Rattle.ddr_trace.specs.Rules.{is_in}
use Rattle.ddr_legality.specs.declared.one_pass.Checker.{Checker}
use Rattle.ddr_legality.specs.BusReadiness.{HasIssued, is_later}
use Rattle.ddr_legality.specs.declared.refreshes.Refreshes.{Refreshes}
use Rattle.ddr_legality.specs.Refreshes.{HasCounted}

-- what the trace is checked against
abbrev pub config_of : Checker → Config
config_of s = s.issued.config

-- the trace's first cycle
abbrev pub start_of : Checker → ℕ
start_of s = s.issued.start

-- the entry is of the geometry, and comes behind the last one that was passed
abbrev pub can_pass : Checker → Entry → Bool
can_pass s e = is_in s.issued.config.geometry e.command && is_later s.issued.last e.cycle

-- the REFs of a rank
abbrev pub refreshes_of : Checker → ℕ → Refreshes
refreshes_of s rank = if rank == 0 then s.first else s.second

-- what is kept stands for these entries
pub record HasPassed (s : Checker) (history : List Entry) : Type 0 where
  pub issued : HasIssued s.issued history
  pub first : HasCounted 0 s.first history
  pub second : HasCounted 1 s.second history
