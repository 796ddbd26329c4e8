-- The sort is stable, and so gives the one list in order.
use Rattle.std.proofs.Common.{rules}
use Rattle.std.proofs.lemmas.List.Sorted.{answers_always, IsNonDecreasingBy-from_sort}
use Rattle.std.proofs.lemmas.Result.{on_ok_weaker}
use Rattle.ddr_draw.specs.declared.change.Change.{Change}
use Rattle.ddr_draw.proofs.OrderLemmas.{in_order-from_sort}
use Rattle.ddr_draw.proofs.order.put_in_order.Goals as goal

pub returns-clause-ordered : goal.returns-clause-ordered
returns-clause-ordered c =
    let keys = answers_always _ _ _ (λ f a r next called. search rules) in
    let stable = c.sort_by_key.ensures.stable (λ (change : Change). change.cycle) keys in
    on_ok_weaker c.sort_by_key.result
    (λ sorted. in_order-from_sort _ _ (IsNonDecreasingBy-from_sort (λ (change : Change). change.cycle) _ (sorted (λ (change : Change). change.cycle) keys)) stable)
    c.sort_by_key.ensures.sorted

pub returns-clause-rising : goal.returns-clause-rising
returns-clause-rising c =
    let keys = answers_always _ _ _ (λ f a r next called. search rules) in
    on_ok_weaker c.sort_by_key.result
    (λ sorted. IsNonDecreasingBy-from_sort (λ (change : Change). change.cycle) _ (sorted (λ (change : Change). change.cycle) keys))
    c.sort_by_key.ensures.sorted
