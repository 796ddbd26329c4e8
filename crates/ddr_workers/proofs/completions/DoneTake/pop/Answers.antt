use Rattle.std.proofs.lemmas.Option.{IfSome_then}
use Rattle.ddr_workers.proofs.CompletionLemmas.{is_next}
use Rattle.ddr_workers.proofs.completions.DoneTake.pop.Goals as goal

pub returns-clause-next : goal.returns-clause-next
returns-clause-next g c = IfSome_then _ c.take.ensures.next (λ x. is_next _ x)
