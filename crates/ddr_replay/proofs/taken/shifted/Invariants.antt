use Rattle.std.proofs.Common.{◌≡◌, ◌++◌, drop}
use Rattle.ddr_replay.specs.Taken.{shifted}
use Rattle.ddr_replay.proofs.taken.shifted.Given as goal

abbrev pub invariant-loop-queue : goal.invariant-loop-queue
invariant-loop-queue l = l.all.items ++ shifted l.by (drop l.queue-index l.queues) ≡ shifted l.by l.queues
