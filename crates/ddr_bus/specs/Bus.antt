-- A command in C's form.
use Rattle.std.specs.Prelude.{ℕ, ◌-◌, ◌*◌, ◌^◌, min}
use Rattle.ddr_timing.specs.declared.units.TheConstants.{LINE_COLUMNS}
use Rattle.ddr_trace.specs.declared.command.Command.TheVariants as command
use Rattle.ddr_trace.specs.declared.command.Command.{Command}
use Rattle.ddr_trace.specs.declared.command.Entry.{Entry}
use Rattle.ddr_bus.specs.declared.bus.BusCommand.{BusCommand}
use Rattle.ddr_bus.specs.declared.bus.TheConstants.{UNNAMED, ACT, RD, WR, RDA, WRA, PRE, PREA, REF}

-- a read or a write: its column is that of its line's first byte
abbrev pub column_command : ℕ → ℕ → ℕ → ℕ → ℕ → ℕ → ℕ → BusCommand
column_command cycle kind rank group bank row line = record { cycle = cycle; kind = kind; rank = rank; group = group; bank = bank; row = row; column = min (line * LINE_COLUMNS) (2 ^ 32 - 1) }

-- a command for a whole rank
abbrev pub rank_command : ℕ → ℕ → ℕ → BusCommand
rank_command cycle kind rank = record { cycle = cycle; kind = kind; rank = rank; group = UNNAMED; bank = UNNAMED; row = UNNAMED; column = UNNAMED }

abbrev pub placed : ℕ → Command → BusCommand
placed cycle (command.Act rank group bank row) = record { cycle = cycle; kind = ACT; rank = rank; group = group; bank = bank; row = row; column = UNNAMED }
placed cycle (command.Rd rank group bank row line) = column_command cycle RD rank group bank row line
placed cycle (command.Wr rank group bank row line) = column_command cycle WR rank group bank row line
placed cycle (command.RdAuto rank group bank row line) = column_command cycle RDA rank group bank row line
placed cycle (command.WrAuto rank group bank row line) = column_command cycle WRA rank group bank row line
placed cycle (command.Pre rank group bank) = record { cycle = cycle; kind = PRE; rank = rank; group = group; bank = bank; row = UNNAMED; column = UNNAMED }
placed cycle (command.PreAll rank) = rank_command cycle PREA rank
placed cycle (command.Refresh rank) = rank_command cycle REF rank

abbrev pub bus_command : Entry → BusCommand
bus_command entry = placed entry.cycle entry.command
