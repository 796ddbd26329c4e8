use Rattle.std.proofs.Common.{◌≡◌, drop}
use Rattle.ddr_replay.specs.Taken.{first_from}
use Rattle.ddr_replay.proofs.taken.first_from.Given as goal

abbrev pub invariant-loop-ask : goal.invariant-loop-ask
invariant-loop-ask l = first_from l.least (drop l.ask-index l.asks) ≡ first_from l.first l.asks
