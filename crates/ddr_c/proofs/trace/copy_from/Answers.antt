-- One entry more was copied.
use Rattle.std.proofs.Common.{arith}
use Rattle.ddr_bus.specs.Bus.{bus_command}
use Rattle.ddr_c.proofs.TraceLemmas.{copied_on}
use Rattle.ddr_c.proofs.trace.copy_from.Goals as goal

pub loop-i-preserved : goal.loop-i-preserved
loop-i-preserved c =
    copied_on bus_command c.loop-i.i _ _ c.args.commands.now c.loop-i.commands _ c.bus_command.result c.loop-i.invariant c.bus_command.ensures (omega (arith, c.loop-i-test.true, c.min-count.ensures)) (omega (arith, c.loop-i-test.true, c.min-count.ensures)) (omega arith)
