use Rattle.std.proofs.lemmas.Option.{IfSome_then}
use Rattle.ddr_workers.proofs.RequestLemmas.{is_next}
use Rattle.ddr_workers.proofs.requests.RequestTake.pop.Goals as goal

pub returns-clause-next : goal.returns-clause-next
returns-clause-next g c = IfSome_then _ c.take.ensures.next (λ x. is_next _ x)
