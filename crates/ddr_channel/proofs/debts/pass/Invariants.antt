use Rattle.std.proofs.Common.{◌≡◌, ◌++◌, map, take, drop}
use Rattle.ddr_refresh.specs.Refreshes.{after_ticks}
use Rattle.ddr_channel.proofs.debts.pass.Given as goal

abbrev pub invariant-loop-debt : goal.invariant-loop-debt
invariant-loop-debt l = l.debt-items ≡ map (after_ticks l.cycles) (take l.debt-index l.initial.debt-items) ++ drop l.debt-index l.initial.debt-items
