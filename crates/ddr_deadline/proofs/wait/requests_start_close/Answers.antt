-- A request that is served alone from now on is served soon.
use Rattle.ddr_deadline.proofs.StartLemmas.{start_run}
use Rattle.ddr_deadline.proofs.wait.requests_start_close.Goals as goal

pub returns : goal.returns
returns c = start_run
