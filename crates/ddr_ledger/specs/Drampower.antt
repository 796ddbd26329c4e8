-- The commands of a channel as comma-separated values, as DRAMPower's command line reads them.
use Rattle.std.specs.Prelude.{ℕ, ◌+◌, ◌*◌, List, [], ◌∷◌, ◌++◌, codes, flat_map}
use Rattle.std.specs.Fmt.{decimal}
use Rattle.ddr_timing.specs.declared.units.TheConstants.{GROUP_BANKS, LINE_COLUMNS}
use Rattle.ddr_trace.specs.Commands.{bank_of, group_of, rank_of, row_of}
use Rattle.ddr_trace.specs.Names.{command_name}
use Rattle.ddr_trace.specs.declared.command.Command.{Command}
use Rattle.ddr_trace.specs.declared.command.Command.TheVariants.{Rd, Wr, RdAuto, WrAuto, Refresh}
use Rattle.ddr_trace.specs.declared.command.Entry.{Entry}

-- a refresh is one of all banks, and has a name of its own
abbrev pub drampower_name : Command → List ℕ
drampower_name (Refresh rank) = codes "REFA"
drampower_name command = command_name command

-- the bank's number in its rank, where the command names one
abbrev pub bank_in_rank : Command → ℕ
bank_in_rank command = GROUP_BANKS * group_of command + bank_of command

-- the first column of the line, where the command names one
abbrev pub column_of : Command → ℕ
column_of (Rd rank group bank row line) = LINE_COLUMNS * line
column_of (Wr rank group bank row line) = LINE_COLUMNS * line
column_of (RdAuto rank group bank row line) = LINE_COLUMNS * line
column_of (WrAuto rank group bank row line) = LINE_COLUMNS * line
column_of _ = 0

-- rank, bank group, bank, row and column, 0 where the command names none
unfoldable pub place_fields : Command → List ℕ
place_fields command =
    decimal (rank_of command) ++ (codes "," ++ (decimal (group_of command) ++ (codes "," ++ (decimal (bank_in_rank command) ++ (codes ","
    ++ (decimal (row_of command) ++ (codes "," ++ decimal (column_of command))))))))

unfoldable pub drampower_line : Entry → List ℕ
drampower_line entry =
    decimal entry.cycle ++ (codes "," ++ (drampower_name entry.command ++ (codes "," ++ (place_fields entry.command ++ 10 ∷ []))))

unfoldable pub end_line : ℕ → List ℕ
end_line end = decimal end ++ (codes ",END,0,0,0,0,0" ++ 10 ∷ [])

-- a line for each command, and one for the trace's end
unfoldable pub drampower_text : List Entry → ℕ → List ℕ
drampower_text entries end = flat_map drampower_line entries ++ end_line end
