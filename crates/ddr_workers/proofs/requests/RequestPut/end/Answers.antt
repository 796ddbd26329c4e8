use Rattle.ddr_workers.proofs.RequestLemmas.{IsProper-push}
use Rattle.ddr_workers.proofs.requests.RequestPut.end.Goals as goal

pub put-requires-clause-proper : goal.put-requires-clause-proper
put-requires-clause-proper g c = IsProper-push _ _ _ c.requires.before_end tt
