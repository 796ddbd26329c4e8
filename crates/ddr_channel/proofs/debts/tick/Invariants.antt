use Rattle.std.proofs.Common.{◌≡◌, ◌++◌, map, take, drop}
use Rattle.ddr_refresh.specs.Refreshes.{after_tick}
use Rattle.ddr_channel.proofs.debts.tick.Given as goal

abbrev pub invariant-loop-debt : goal.invariant-loop-debt
invariant-loop-debt l = l.debt-items ≡ map after_tick (take l.debt-index l.initial.debt-items) ++ drop l.debt-index l.initial.debt-items
