use Rattle.std.proofs.Common.{subst}
use Rattle.ddr_workers.specs.Worker.{IsAtWork}
use Rattle.ddr_workers.specs.WorkerView.{state_of}
use Rattle.ddr_workers.proofs.EndLemmas.{at_work}
use Rattle.ddr_workers.proofs.worker.Worker.stopped.Goals as goal

pub returns-clause-at_work : goal.returns-clause-at_work
returns-clause-at_work c = subst IsAtWork c.self.view_is (at_work (state_of c.self.inside) c.self.invariant c.channel_promise.ensures)
