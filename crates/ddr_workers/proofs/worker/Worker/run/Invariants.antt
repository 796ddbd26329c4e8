use Rattle.ddr_workers.specs.Worker.{IsSameWorker}
use Rattle.ddr_workers.proofs.worker.Worker.run.Given as goal

abbrev pub invariant-loop : goal.invariant-loop
invariant-loop g l = IsSameWorker l.fn.self l.self
