-- The numbers of one place of a trace, each a count of the history's entries. A place is a test of commands.
use Rattle.std.specs.Prelude.{ℕ, ◌+◌, ◌*◌, Bool, true, false, not, ◌&&◌, if◌then◌else◌, List, [], ◌∷◌, ◌++◌, count_by, Option}
use Rattle.ddr_timing.specs.declared.units.TheConstants.{BURST_CLOCKS}
use Rattle.ddr_trace.specs.declared.command.Command.{Command}
use Rattle.ddr_trace.specs.declared.command.Command.TheVariants.{PreAll, Refresh}
use Rattle.ddr_trace.specs.declared.command.Entry.{Entry}
use Rattle.ddr_trace.specs.Commands.{is_activate, is_auto, is_column, is_of_all_banks, is_precharge, is_read, is_refresh, is_same_rank, is_write}
use Rattle.ddr_statistics.specs.declared.counts.Counts.{Counts}
use Rattle.ddr_statistics.specs.declared.counts.Finding.{Finding}
use Rattle.ddr_statistics.specs.Visits.{finding, is_at, is_conflict, is_hit, is_miss}

-- the whole channel
abbrev pub is_any : Command → Bool
is_any command = true

abbrev pub is_of_rank : ℕ → Command → Bool
is_of_rank rank command = is_same_rank command (Refresh rank)

-- the command is of one bank: it is no PREA and no REF
abbrev pub is_of_one_bank : Command → Bool
is_of_one_bank (PreAll rank) = false
is_of_one_bank (Refresh rank) = false
is_of_one_bank _ = true

-- the command is of this bank alone
abbrev pub is_of_one : ℕ → ℕ → ℕ → Command → Bool
is_of_one rank group bank command = is_of_one_bank command && is_at rank group bank command

-- the kinds of commands
abbrev pub is_pre : Command → Bool
is_pre command = is_precharge command && not (is_of_all_banks command)

abbrev pub is_rd : Command → Bool
is_rd command = is_read command && not (is_auto command)

abbrev pub is_wr : Command → Bool
is_wr command = is_write command && not (is_auto command)

abbrev pub is_rda : Command → Bool
is_rda command = is_read command && is_auto command

abbrev pub is_wra : Command → Bool
is_wra command = is_write command && is_auto command

-- how many commands of a kind the place has
unfoldable pub kind_count : (Command → Bool) → (Command → Bool) → List Entry → ℕ
kind_count kind place history = count_by (λ e. place e.command && kind e.command) history

-- how many of these entries, which stand behind others, pass a test of an entry and all that stands before it
abbrev pub count_from : (List Entry → Entry → Bool) → List Entry → List Entry → ℕ
count_from test before [] = 0
count_from test before (e ∷ later) = (if test before e then 1 else 0) + count_from test (before ++ e ∷ []) later

-- how many entries of the history do
unfoldable pub count_behind : (List Entry → Entry → Bool) → List Entry → ℕ
count_behind test history = count_from test [] history

-- how many reads and writes of the place find their bank so
abbrev pub found_count : (Option Finding → Bool) → (Command → Bool) → List Entry → ℕ
found_count so place history = count_behind (λ before e. place e.command && so (finding before e.command)) history

unfoldable pub counts_of : (Command → Bool) → List Entry → Counts
counts_of place history = record {
  activates = kind_count is_activate place history;
  precharges = kind_count is_pre place history;
  precharges_all = kind_count is_of_all_banks place history;
  reads = kind_count is_rd place history;
  writes = kind_count is_wr place history;
  reads_auto = kind_count is_rda place history;
  writes_auto = kind_count is_wra place history;
  refreshes = kind_count is_refresh place history;
  row_hits = found_count is_hit place history;
  row_misses = found_count is_miss place history;
  row_conflicts = found_count is_conflict place history;
  busy_clocks = BURST_CLOCKS * kind_count is_column place history;
}
