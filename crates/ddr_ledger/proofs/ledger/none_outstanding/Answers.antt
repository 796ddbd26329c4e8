-- One port more.
use Rattle.std.proofs.Common.{[], ◌∷◌, ◌++◌, List, ap₂, ◌∙◌}
use Rattle.std.proofs.lemmas.List.{replicate-append-replicate}
use Rattle.ddr_ledger.specs.declared.times.Accepted.{Accepted}
use Rattle.ddr_ledger.proofs.ledger.none_outstanding.Goals as goal

pub loop-preserved : goal.loop-preserved
loop-preserved c =
    c.in_ok-push.ensures.items ∙ ap₂ (λ (xs : List (List Accepted)) (x : List Accepted). xs ++ x ∷ []) c.loop.invariant c.new.ensures ∙ replicate-append-replicate c.loop.counter 1 []
