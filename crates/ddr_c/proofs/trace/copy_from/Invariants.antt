use Rattle.std.proofs.Common.{◌≡◌, ◌++◌, map, take, drop}
use Rattle.ddr_bus.specs.Bus.{bus_command}
use Rattle.ddr_c.proofs.trace.copy_from.Given as goal

abbrev pub invariant-loop-i : goal.invariant-loop-i
invariant-loop-i l = l.commands ≡ map bus_command (take l.i l.left) ++ drop l.i l.fn.commands
