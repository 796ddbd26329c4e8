use Rattle.ddr_workers.proofs.RequestLemmas.{nothing_left}
use Rattle.ddr_workers.proofs.requests.join.Goals as goal

pub returns-clause-ended : goal.returns-clause-ended
returns-clause-ended g c = nothing_left c.args.take c.join.result.items c.join.ensures.proper
