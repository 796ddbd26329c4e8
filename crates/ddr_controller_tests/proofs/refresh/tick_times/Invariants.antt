use Rattle.std.proofs.Common.{◌≡◌, ◌+◌}
use Rattle.ddr_controller_tests.proofs.refresh.tick_times.Given as goal

abbrev pub invariant-loop-tick : goal.invariant-loop-tick
invariant-loop-tick l = l.debt ≡ record l.initial.debt { ticks = l.initial.debt.ticks + l._tick }
