-- A channel's command bus, and the commands that are legal on it now.
use Rattle.std.specs.Prelude.{ℕ, ◌+◌, Bool, ◌&&◌, List, [], ◌∷◌, ◌++◌, Option}
use Rattle.std.specs.Option.{is_none}
use Rattle.ddr_timing.specs.declared.config.Config.{Config}
use Rattle.ddr_trace.specs.declared.command.Command.{Command}
use Rattle.ddr_trace.specs.declared.command.Entry.{Entry}
use Rattle.ddr_trace.specs.declared.rule.Rule.{Rule}
use Rattle.ddr_trace.specs.Banks.{bank_behind, open_row}
use Rattle.ddr_trace.specs.Commands.{entry}
use Rattle.ddr_trace.specs.Legality.{lowest_broken}
use Rattle.ddr_trace.specs.Rules.{breaks, is_on_commands}
use Rattle.ddr_rank.specs.Distances.{no_distance, state_fits}

-- what was issued since the start, and the next cycle
pub record Bus : Type 0 where
  pub config : Config
  pub start : ℕ
  pub now : ℕ
  pub trace : List Entry

abbrev pub opened : Config → ℕ → Bus
opened config start = record { config = config; start = start; now = start; trace = [] }

-- the lowest rule on commands that the command would break now
abbrev pub broken_now : Bus → Command → Option Rule
broken_now b c = lowest_broken b.config b.start (b.now + 1) b.trace (entry b.now c)

-- the command is legal now
abbrev pub is_legal_now : Bus → Command → Bool
is_legal_now b c = is_none (broken_now b c)

-- the open row of a bank now
abbrev pub open_row_now : Bus → Command → Option ℕ
open_row_now b bank = open_row b.config.timing b.now (bank_behind bank b.trace)

-- the command is issued now
abbrev pub recorded : Command → Bus → Bus
recorded c b = record b { trace = b.trace ++ entry b.now c ∷ [] }

abbrev pub ticked : Bus → Bus
ticked b = record b { now = b.now + 1 }

-- so many cycles later, with no command issued in them
abbrev pub passed : ℕ → Bus → Bus
passed count b = record b { now = b.now + count }

-- the banks are in a state that the command may find now
abbrev pub fits_now : Bus → Command → Bool
fits_now b c = state_fits b.config b.trace (entry b.now c)

-- bank states aside, the command breaks no rule on commands now
abbrev pub keeps_distances_now : Bus → Command → Bool
keeps_distances_now b c = no_distance (λ r. is_on_commands r && breaks b.config b.start (b.now + 1) r b.trace (entry b.now c))
