use Rattle.std.proofs.Common.{take}
use Rattle.ddr_arbiter.specs.Until.{AreSteadyUntil}
use Rattle.ddr_arbiter.proofs.quiet.steady_until.Given as goal

abbrev pub invariant-loop-debt : goal.invariant-loop-debt
invariant-loop-debt l = AreSteadyUntil l.end l.now (take l.debt-index l.debts)
