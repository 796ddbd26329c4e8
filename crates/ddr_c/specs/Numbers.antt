-- The numbers of a channel in C's form.
use Rattle.std.specs.Prelude.{ℕ, ◌==◌, if◌then◌else◌, List, Option, Some, None, Result, Ok, Err, slice_get, unwrap_or}
use Rattle.ddr_timing.specs.declared.config.Config.{Config}
use Rattle.ddr_timing.specs.declared.units.TheConstants.{CLOCK_STOP}
use Rattle.ddr_trace.specs.declared.command.Entry.{Entry}
use Rattle.ddr_channel.specs.Kept as channel
use Rattle.ddr_statistics.specs.Counts.{counts_of, is_any}
use Rattle.ddr_statistics.specs.Debts.{debts_most}
use Rattle.ddr_statistics.specs.Turns as turns
use Rattle.ddr_statistics.specs.declared.counts.Counts.{Counts}
use Rattle.ddr_world.specs.declared.event.Refusal.{Refusal}
use Rattle.ddr_world.specs.declared.event.Refusal.TheVariants.{ClockSpent, NoSuch}
use Rattle.ddr_c.specs.declared.numbers.ChannelNumbers.{ChannelNumbers}

-- of these counts, and of what else is counted
abbrev pub with_counts : ℕ → Counts → ℕ → ℕ → ℕ → ℕ → ChannelNumbers
with_counts cycles counts turn_rounds rank_switches refresh_debt_most drains = record {
  cycles = cycles;
  activates = counts.activates;
  precharges = counts.precharges;
  precharges_all = counts.precharges_all;
  refreshes = counts.refreshes;
  reads = counts.reads;
  writes = counts.writes;
  reads_auto = counts.reads_auto;
  writes_auto = counts.writes_auto;
  row_hits = counts.row_hits;
  row_misses = counts.row_misses;
  row_conflicts = counts.row_conflicts;
  busy_clocks = counts.busy_clocks;
  turn_rounds = turn_rounds;
  rank_switches = rank_switches;
  refresh_debt_most = refresh_debt_most;
  drain_cycles = drains;
}

-- of a trace so configured, which begins in cycle 0 and ends before this one; in so many cycles writes were drained
abbrev pub numbers_of : Config → ℕ → List Entry → ℕ → ChannelNumbers
numbers_of config end trace drains =
    with_counts end (counts_of is_any trace) (turns.turn_rounds trace) (turns.rank_switches trace) (debts_most config.timing.refi 0 end config.geometry.ranks trace) drains

-- in how many cycles of a channel they were; 0 where there is no number of it
abbrev pub drains_at : List ℕ → ℕ → ℕ
drains_at drains channel = unwrap_or (slice_get drains channel) 0

-- what is told of a channel, if there is one and its clock has not come to its end
abbrev pub numbers_told : Option channel.Kept → ℕ → Result ChannelNumbers Refusal
numbers_told None drains = Err NoSuch
numbers_told (Some c) drains = if c.now == CLOCK_STOP then Err ClockSpent else Ok (numbers_of c.config c.now c.trace drains)
