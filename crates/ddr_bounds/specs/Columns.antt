-- How far the column commands of a trace stand apart.
use Rattle.std.specs.Prelude.{◌≡◌, ℕ, ◌+◌, ◌<◌, ◌≤◌, true, List, Some, slice_get}
use Rattle.ddr_timing.specs.declared.units.TheConstants.{BURST_CLOCKS}
use Rattle.ddr_trace.specs.declared.command.Entry.{Entry}
use Rattle.ddr_trace.specs.Commands.{is_column}

-- any two reads and writes of the trace, of whichever ranks, stand at least a burst's clocks apart
abbrev pub AreColumnsApart : List Entry → Type 0
AreColumnsApart entries = (i j : ℕ) (a b : Entry) → i < j → slice_get entries i ≡ Some a → slice_get entries j ≡ Some b → is_column a.command ≡ true → is_column b.command ≡ true → a.cycle + BURST_CLOCKS ≤ b.cycle
