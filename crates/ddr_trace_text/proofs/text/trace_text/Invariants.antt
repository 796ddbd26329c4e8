use Rattle.std.proofs.Common.{◌≡◌, ◌++◌, take}
use Rattle.std.specs.List.{flat_map}
use Rattle.csv.specs.Writing.{writer_under, writer_pending}
use Rattle.ddr_trace_text.specs.Text.{record_text, header, command_fields}
use Rattle.ddr_trace_text.specs.Table.{IsReady}
use Rattle.ddr_trace_text.proofs.text.trace_text.Given as goal

abbrev pub invariant-loop-entry : goal.invariant-loop-entry
invariant-loop-entry l =
    record { text : (writer_under l.table).items ++ writer_pending l.table ≡ record_text header ++ flat_map (λ e. record_text (command_fields e.cycle e.command)) (take l.entry-index l.entries); ready : IsReady l.table }
