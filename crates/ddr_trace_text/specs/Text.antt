-- The text of a trace: comma-separated fields, one command a line.
use Rattle.std.specs.Prelude.{ℕ, ◌*◌, List, [], ◌∷◌, ◌++◌, codes}
use Rattle.std.specs.List.{flat_map, join_with_byte}
use Rattle.std.specs.Fmt.{decimal}
use Rattle.ddr_timing.specs.declared.units.TheConstants.{LINE_COLUMNS}
use Rattle.ddr_trace.specs.declared.command.Command.{Command}
use Rattle.ddr_trace.specs.declared.command.Command.TheVariants.{Act, Rd, Wr, RdAuto, WrAuto, Pre, PreAll, Refresh}
use Rattle.ddr_trace.specs.declared.command.Entry.{Entry}

-- a record: its fields with a comma between them, and a line feed
unfoldable pub record_text : List (List ℕ) → List ℕ
record_text fields = join_with_byte 44 fields ++ 10 ∷ []

unfoldable pub header : List (List ℕ)
header = codes "cycle" ∷ codes "cmd" ∷ codes "rank" ∷ codes "group" ∷ codes "bank" ∷ codes "row" ∷ codes "col" ∷ []

-- the fields of a command, where one that it has no number for is empty
unfoldable pub command_fields : ℕ → Command → List (List ℕ)
command_fields cycle (Act rank group bank row) =
    decimal cycle ∷ codes "ACT" ∷ decimal rank ∷ decimal group ∷ decimal bank ∷ decimal row ∷ [] ∷ []
command_fields cycle (Rd rank group bank row line) =
    decimal cycle ∷ codes "RD" ∷ decimal rank ∷ decimal group ∷ decimal bank ∷ decimal row ∷ decimal (LINE_COLUMNS * line) ∷ []
command_fields cycle (Wr rank group bank row line) =
    decimal cycle ∷ codes "WR" ∷ decimal rank ∷ decimal group ∷ decimal bank ∷ decimal row ∷ decimal (LINE_COLUMNS * line) ∷ []
command_fields cycle (RdAuto rank group bank row line) =
    decimal cycle ∷ codes "RDA" ∷ decimal rank ∷ decimal group ∷ decimal bank ∷ decimal row ∷ decimal (LINE_COLUMNS * line) ∷ []
command_fields cycle (WrAuto rank group bank row line) =
    decimal cycle ∷ codes "WRA" ∷ decimal rank ∷ decimal group ∷ decimal bank ∷ decimal row ∷ decimal (LINE_COLUMNS * line) ∷ []
command_fields cycle (Pre rank group bank) =
    decimal cycle ∷ codes "PRE" ∷ decimal rank ∷ decimal group ∷ decimal bank ∷ [] ∷ [] ∷ []
command_fields cycle (PreAll rank) = decimal cycle ∷ codes "PREA" ∷ decimal rank ∷ [] ∷ [] ∷ [] ∷ [] ∷ []
command_fields cycle (Refresh rank) = decimal cycle ∷ codes "REF" ∷ decimal rank ∷ [] ∷ [] ∷ [] ∷ [] ∷ []

unfoldable pub end_fields : ℕ → List (List ℕ)
end_fields cycle = decimal cycle ∷ codes "END" ∷ [] ∷ [] ∷ [] ∷ [] ∷ [] ∷ []

-- the header, the commands and the trace's end
unfoldable pub trace_text : List Entry → ℕ → List ℕ
trace_text entries end =
    record_text header ++ flat_map (λ e. record_text (command_fields e.cycle e.command)) entries ++ record_text (end_fields end)
