use Rattle.ddr_trace_text.proofs.ReadLemmas.{HasTaken}
use Rattle.std.proofs.Common.{◌≡◌, ◌+◌, ℕ, List, length}
use Rattle.ddr_trace_text.specs.Table.{IsReading}
use Rattle.ddr_trace_text.proofs.reader.read_entries.Given as goal

-- behind so many commands the table stands at the line of the next record
abbrev pub invariant-loop-line : goal.invariant-loop-line
invariant-loop-line g l = IsReading l.table × (length l.entries.items + 2 ≡ l.line)
    × ((rows : List (List (List ℕ))) → HasTaken g.R.Read.remaining l.fn.table l.table l.line l.entries.items rows)
