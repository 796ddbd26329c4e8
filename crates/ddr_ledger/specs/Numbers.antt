-- What a replay comes to, in numbers.
use Rattle.std.specs.Prelude.{◌≡◌, ℕ, ◌==◌, max, Bool, true, false, List, map, fold, slice_get, Result, Ok, Err}
use Rattle.std.specs.List.{list_any, range_with_len}
use Rattle.std.specs.Option.{option_map_or}
use Rattle.ddr_timing.specs.declared.config.Config.{Config}
use Rattle.ddr_timing.specs.declared.units.TheConstants.{CLOCK_STOP}
use Rattle.ddr_trace.specs.declared.command.Entry.{Entry}
use Rattle.ddr_statistics.specs.declared.counts.Counts.{Counts}
use Rattle.ddr_statistics.specs.Counts.{counts_of, is_any}
use Rattle.ddr_statistics.specs.Debts.{debts_most}
use Rattle.ddr_statistics.specs.Noted.{no_counts, raised}
use Rattle.ddr_statistics.specs.Turns as turns
use Rattle.ddr_world.specs.State.{State}
use Rattle.ddr_text.specs.declared.fault.Fault.{Fault}
use Rattle.ddr_text.specs.declared.fault.Fault.TheVariants.{ClockSpent, OutOfMemory}
use Rattle.ddr_ledger.specs.declared.numbers.Numbers.{Numbers}
use Rattle.ddr_stream.specs.declared.requests.Requests.{Requests}
use Rattle.ddr_stream.specs.Requests.{no_requests}

-- the requests of two together
abbrev pub both : Requests → Requests → Requests
both a b = record { reads = raised b.reads a.reads; writes = raised b.writes a.writes }

abbrev pub many : List Requests → Requests
many requests = fold both no_requests requests

-- the numbers of a trace of a channel so configured, which begins in cycle 0 and ends before this one
unfoldable pub numbers_in : Config → ℕ → List Entry → Numbers
numbers_in config end trace = record {
  turn_rounds = turns.turn_rounds trace;
  rank_switches = turns.rank_switches trace;
  refresh_debt_most = debts_most config.timing.refi 0 end config.geometry.ranks trace;
  counts = counts_of is_any trace;
}

abbrev pub no_numbers : Numbers
no_numbers = record { turn_rounds = 0; rank_switches = 0; refresh_debt_most = 0; counts = no_counts }

-- those of the channel of that number
abbrev pub numbers_at : State → ℕ → Numbers
numbers_at s c = option_map_or (λ side. numbers_in side.channel.config side.channel.now side.channel.trace) (slice_get s.channels c) no_numbers

-- those of so many channels
abbrev pub numbers_of : State → ℕ → List Numbers
numbers_of s channels = map (numbers_at s) (range_with_len 0 channels)

-- the clock of that channel has come to its end
abbrev pub is_spent : State → ℕ → Bool
is_spent s c = option_map_or (λ side. side.channel.now == CLOCK_STOP) (slice_get s.channels c) false

abbrev pub is_any_spent : State → ℕ → Bool
is_any_spent s channels = list_any (is_spent s) (range_with_len 0 channels)

-- of two together
unfoldable pub added : Counts → Counts → Counts
added a b = record {
  activates = raised b.activates a.activates;
  precharges = raised b.precharges a.precharges;
  precharges_all = raised b.precharges_all a.precharges_all;
  reads = raised b.reads a.reads;
  writes = raised b.writes a.writes;
  reads_auto = raised b.reads_auto a.reads_auto;
  writes_auto = raised b.writes_auto a.writes_auto;
  refreshes = raised b.refreshes a.refreshes;
  row_hits = raised b.row_hits a.row_hits;
  row_misses = raised b.row_misses a.row_misses;
  row_conflicts = raised b.row_conflicts a.row_conflicts;
  busy_clocks = raised b.busy_clocks a.busy_clocks;
}

abbrev pub with_numbers : Numbers → Numbers → Numbers
with_numbers a b = record {
  turn_rounds = raised b.turn_rounds a.turn_rounds;
  rank_switches = raised b.rank_switches a.rank_switches;
  refresh_debt_most = max a.refresh_debt_most b.refresh_debt_most;
  counts = added a.counts b.counts;
}

-- those of several channels together
abbrev pub together : List Numbers → Numbers
together numbers = fold with_numbers no_numbers numbers

-- what is answered, seen by the view, is the numbers, where no clock is spent, unless memory ran out
abbrev pub IsCounted : {X : Type 0} → (X → List Numbers) → Result X Fault → State → ℕ → Type 0
IsCounted view (Ok x) s channels = (view x ≡ numbers_of s channels) × (is_any_spent s channels ≡ false)
IsCounted view (Err ClockSpent) s channels = is_any_spent s channels ≡ true
IsCounted view (Err OutOfMemory) s channels = Unit {0}
IsCounted view (Err _) s channels = ⊥
