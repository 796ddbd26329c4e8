use Rattle.std.proofs.Common.{◌≡◌, drop}
use Rattle.std.specs.Prelude.{fold}
use Rattle.ddr_replay.specs.Taken.{first_from, first_of}
use Rattle.ddr_replay.proofs.taken.first_of.Given as goal

abbrev pub invariant-loop-queue : goal.invariant-loop-queue
invariant-loop-queue l = fold first_from l.first (drop l.queue-index l.queues) ≡ first_of l.queues
