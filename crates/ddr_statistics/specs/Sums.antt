-- The numbers of several places together.
use Rattle.std.specs.Prelude.{◌≡◌, ℕ, zero, suc, ◌+◌, ◌*◌, ◌/◌, ◌%◌, Bool, true, ◌&&◌, List}
use Rattle.std.specs.List.{AllByRecursion}
use Rattle.ddr_timing.specs.declared.geometry.Geometry.{Geometry}
use Rattle.ddr_timing.specs.declared.units.TheConstants.{GROUP_BANKS}
use Rattle.ddr_trace.specs.declared.command.Command.{Command}
use Rattle.ddr_trace.specs.declared.command.Entry.{Entry}
use Rattle.ddr_trace.specs.Rules.{is_in}
use Rattle.ddr_statistics.specs.declared.counts.Counts.{Counts}
use Rattle.ddr_statistics.specs.Counts.{counts_of, is_any, is_of_one, is_of_one_bank, is_of_rank}
use Rattle.ddr_statistics.specs.Noted.{no_counts}

-- the numbers of two places together
abbrev pub plus : Counts → Counts → Counts
plus a b = record {
  activates = a.activates + b.activates;
  precharges = a.precharges + b.precharges;
  precharges_all = a.precharges_all + b.precharges_all;
  reads = a.reads + b.reads;
  writes = a.writes + b.writes;
  reads_auto = a.reads_auto + b.reads_auto;
  writes_auto = a.writes_auto + b.writes_auto;
  refreshes = a.refreshes + b.refreshes;
  row_hits = a.row_hits + b.row_hits;
  row_misses = a.row_misses + b.row_misses;
  row_conflicts = a.row_conflicts + b.row_conflicts;
  busy_clocks = a.busy_clocks + b.busy_clocks;
}

-- those of the first n of numbered places together
abbrev pub sum_below : (ℕ → Counts) → ℕ → Counts
sum_below numbers zero = no_counts
sum_below numbers (suc n) = plus (sum_below numbers n) (numbers n)

-- every command lies in the geometry
abbrev pub ArePlaced : Geometry → List Entry → Type 0
ArePlaced g history = AllByRecursion (λ e. is_in g e.command ≡ true) history

-- the ranks' numbers together are the channel's
abbrev pub RanksAddUp : Geometry → List Entry → Type 0
RanksAddUp g history = counts_of is_any history ≡ sum_below (λ rank. counts_of (is_of_rank rank) history) g.ranks

-- the commands of the rank that are of one bank: all but its PREAs and REFs
abbrev pub is_of_banks : ℕ → Command → Bool
is_of_banks rank command = is_of_rank rank command && is_of_one_bank command

-- the numbers of the bank of a number in its rank
abbrev pub counts_at : List Entry → ℕ → ℕ → Counts
counts_at history rank number = counts_of (is_of_one rank (number / GROUP_BANKS) (number % GROUP_BANKS)) history

-- the banks' numbers together are those of the rank's commands that are of one bank
abbrev pub BanksAddUp : Geometry → List Entry → ℕ → Type 0
BanksAddUp g history rank = counts_of (is_of_banks rank) history ≡ sum_below (counts_at history rank) (g.groups * GROUP_BANKS)
