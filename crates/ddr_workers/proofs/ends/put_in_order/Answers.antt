use Rattle.std.proofs.Common.{rules}
use Rattle.std.proofs.lemmas.List.Sorted.{IsNonDecreasingBy-from_sort_by_key}
use Rattle.ddr_workers.proofs.ends.put_in_order.Goals as goal

pub returns-clause-order : goal.returns-clause-order
returns-clause-order g c = IsNonDecreasingBy-from_sort_by_key g.E.Numbered.number_of c.sort_unstable_by_key.new.self.items c.sort_unstable_by_key.ensures.sorted (λ a r q k. search rules)
