-- The last read and the last write of a rank, and RTRS by them.
use Rattle.std.specs.Prelude.{◌≡◌, ℕ, ◌+◌, Bool, true, false, ◌&&◌, ◌||◌, nat_lt, max, if◌then◌else◌, List, Option, Some, None, option_map}
use Rattle.ddr_timing.specs.declared.timing.Timing.{Timing}
use Rattle.ddr_trace.specs.declared.command.Command.{Command}
use Rattle.ddr_trace.specs.declared.command.Command.TheVariants.{Rd, Wr}
use Rattle.ddr_trace.specs.declared.command.Entry.{Entry}
use Rattle.ddr_trace.specs.Commands.{is_column, is_read, is_write}
use Rattle.ddr_trace.specs.Rules.{rank_switch}
use Rattle.ddr_rank.specs.Latest.{latest}
use Rattle.ddr_rank.specs.Ready.{after}
use Rattle.ddr_rank.specs.Stands.{is_of_rank}
use Rattle.ddr_legality.specs.declared.columns.Columns.{Columns}
use Rattle.ddr_legality.specs.declared.columns.Switch.{Switch}

-- the entry, of another rank, stands too close behind this one
abbrev pub is_switched_soon : Timing → Option Entry → Entry → Bool
is_switched_soon t None e = false
is_switched_soon t (Some a) e = nat_lt e.cycle (a.cycle + rank_switch t a.command e.command)

-- RTRS, by the last read and the last write of the other rank
abbrev pub switches_soon : Timing → Columns → Entry → Bool
switches_soon t columns e =
    is_column e.command && (is_switched_soon t columns.read e || is_switched_soon t columns.write e)

-- the first cycle that leaves the least distance of a command of another rank, 0 where nothing asks for one
abbrev pub behind_switch : Timing → Option Entry → Command → ℕ
behind_switch t None c = 0
behind_switch t (Some a) c = after a.cycle (rank_switch t a.command c)

abbrev pub behind_columns : Timing → Columns → Command → ℕ
behind_columns t columns c =
    if is_column c then max (behind_switch t columns.read c) (behind_switch t columns.write c) else 0

-- the first cycles of reads and of writes, of whatever place
abbrev pub switch_behind : Timing → Columns → Switch
switch_behind t columns = record {
  read = behind_columns t columns (Rd 0 0 0 0 0);
  write = behind_columns t columns (Wr 0 0 0 0 0);
}

-- after a command of the rank
abbrev pub columns_noted : Entry → Columns → Columns
columns_noted e columns = record {
  read = if is_read e.command then Some e else columns.read;
  write = if is_write e.command then Some e else columns.write;
}

-- the entry is the last one that passes the test
pub record IsLast (test : Command → Bool) (history : List Entry) (last : Option Entry) : Type 0 where
  pub cycle : option_map {T = Entry} (λ e. e.cycle) last ≡ latest test history
  pub passes : (e : Entry) → last ≡ Some e → test e.command ≡ true

-- the two are the rank's last read and last write
pub record KeepsColumns (rank : ℕ) (history : List Entry) (columns : Columns) : Type 0 where
  pub read : IsLast (λ a. is_read a && is_of_rank rank a) history columns.read
  pub write : IsLast (λ a. is_write a && is_of_rank rank a) history columns.write
