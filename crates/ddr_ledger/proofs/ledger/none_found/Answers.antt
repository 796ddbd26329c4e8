-- One port more.
use Rattle.std.proofs.Common.{[], ◌∷◌, ◌++◌, List, Option, ap₂, ◌∙◌}
use Rattle.std.proofs.lemmas.List.{replicate-append-replicate}
use Rattle.ddr_statistics.specs.declared.counts.Finding.{Finding}
use Rattle.ddr_ledger.proofs.ledger.none_found.Goals as goal

pub loop-preserved : goal.loop-preserved
loop-preserved c =
    c.in_ok-push.ensures.items ∙ ap₂ (λ (xs : List (List (Option Finding))) (x : List (Option Finding)). xs ++ x ∷ []) c.loop.invariant c.new.ensures ∙ replicate-append-replicate c.loop.counter 1 []
