-- The commands of a channel in C's form.
use Rattle.std.specs.Prelude.{List, ◌++◌, drop, length, map, take}
use Rattle.ddr_bus.specs.Bus.{bus_command}
use Rattle.ddr_bus.specs.declared.bus.BusCommand.{BusCommand}
use Rattle.ddr_trace.specs.declared.command.Entry.{Entry}

-- the entries, as far as there are places, and then what was there
abbrev pub traced : List Entry → List BusCommand → List BusCommand
traced entries places = map bus_command (take (length places) entries) ++ drop (length entries) places
