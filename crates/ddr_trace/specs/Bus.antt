-- Bursts on the data bus.
use Rattle.std.specs.Prelude.{◌≡◌, ℕ, ◌+◌, ◌<◌, ◌≤◌, true, List, Some, slice_get}
use Rattle.ddr_timing.specs.declared.timing.Timing.{Timing}
use Rattle.ddr_timing.specs.declared.units.TheConstants.{BURST_CLOCKS}
use Rattle.ddr_trace.specs.declared.command.Entry.{Entry}
use Rattle.ddr_trace.specs.Commands.{is_column}
use Rattle.ddr_trace.specs.Rules.{latency}

-- the cycle in which the data of a read or a write begin
abbrev pub burst_start : Timing → Entry → ℕ
burst_start t e = e.cycle + latency t e.command

-- No two bursts overlap: of any two reads and writes of the trace, the burst of the earlier one, 8 beats at
-- two a clock, ends before that of the later one begins.
abbrev pub KeepsBus : Timing → List Entry → Type 0
KeepsBus t entries = (i j : ℕ) (a b : Entry) → i < j → slice_get entries i ≡ Some a → slice_get entries j ≡ Some b → is_column a.command ≡ true → is_column b.command ≡ true → burst_start t a + BURST_CLOCKS ≤ burst_start t b
