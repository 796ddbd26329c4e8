-- The commands for which stands what is kept of them.
use Rattle.std.specs.Prelude.{◌≡◌, ℕ, Bool, true, ◌&&◌, ◌==◌, nat_lt, nat_le, if◌then◌else◌, List, Option, Some, None}
use Rattle.ddr_trace.specs.declared.command.Command.{Command}
use Rattle.ddr_trace.specs.declared.command.Entry.{Entry}
use Rattle.ddr_trace.specs.Commands.{rank_of}
use Rattle.ddr_trace.specs.Rules.{last_cycle_below}
use Rattle.ddr_rank.specs.Ready.{after}
use Rattle.ddr_rank.specs.Stands.{StandsFor}
use Rattle.ddr_legality.specs.declared.columns.Columns.{Columns}
use Rattle.ddr_legality.specs.declared.columns.Switch.{Switch}
use Rattle.ddr_legality.specs.declared.bus_readiness.BusReadiness.{BusReadiness}
use Rattle.ddr_legality.specs.Columns.{KeepsColumns, behind_columns, switch_behind}

-- the cycle is above the last one, if there is one
abbrev pub is_later : Option ℕ → ℕ → Bool
is_later None cycle = true
is_later (Some last) cycle = nat_lt last cycle

-- the cycle behind the last one, 0 where there is none
abbrev pub behind_last : Option ℕ → ℕ
behind_last None = 0
behind_last (Some last) = after last 1

-- ORDER, by the last cycle
abbrev pub is_in_order : Option ℕ → ℕ → ℕ → ℕ → Bool
is_in_order last start end cycle = is_later last cycle && nat_le start cycle && nat_lt cycle end

-- the reads and writes of the rank that isn't this one
abbrev pub other_columns : BusReadiness → ℕ → Columns
other_columns i rank = if rank == 0 then i.second_columns else i.first_columns

-- the first cycle that the reads and writes of the other rank leave the command
abbrev pub behind_other : BusReadiness → Command → ℕ
behind_other i c = behind_columns i.config.timing (other_columns i (rank_of c)) c

-- of the reads and writes of a rank
abbrev pub switch_of : BusReadiness → ℕ → Switch
switch_of i rank = if rank == 0 then i.first_switch else i.second_switch

-- these commands were issued, in this order, and no others
pub record HasIssued (i : BusReadiness) (history : List Entry) : Type 0 where
  pub last : (cycle : ℕ) → is_later i.last cycle ≡ last_cycle_below history cycle
  pub first : StandsFor i.first 0 history
  pub second : StandsFor i.second 1 history
  pub first_columns : KeepsColumns 0 history i.first_columns
  pub second_columns : KeepsColumns 1 history i.second_columns
  -- the first cycles by these
  pub free : i.free ≡ behind_last i.last
  pub first_switch : i.first_switch ≡ switch_behind i.config.timing i.second_columns
  pub second_switch : i.second_switch ≡ switch_behind i.config.timing i.first_columns
