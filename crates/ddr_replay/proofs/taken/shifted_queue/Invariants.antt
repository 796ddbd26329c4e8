use Rattle.std.proofs.Common.{◌≡◌, ◌++◌, drop, map}
use Rattle.ddr_replay.specs.Taken.{shifted_ask}
use Rattle.ddr_replay.proofs.taken.shifted_queue.Given as goal

abbrev pub invariant-loop-ask : goal.invariant-loop-ask
invariant-loop-ask l = l.queue ++ map (shifted_ask l.by) (drop l.ask-index l.asks) ≡ map (shifted_ask l.by) l.asks
