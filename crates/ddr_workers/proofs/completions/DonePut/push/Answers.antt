use Rattle.ddr_workers.proofs.CompletionLemmas.{source_of-from, AreDelivered-push}
use Rattle.ddr_workers.proofs.completions.DonePut.push.Goals as goal

pub put-requires-clause-own : goal.put-requires-clause-own
put-requires-clause-own g c = source_of-from _ _ _ c.requires

pub put-requires-clause-proper : goal.put-requires-clause-proper
put-requires-clause-proper g c = AreDelivered-push _ _ _ _ c.requires
