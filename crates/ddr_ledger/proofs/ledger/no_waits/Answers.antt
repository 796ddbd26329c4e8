-- One port more.
use Rattle.std.proofs.Common.{[], ◌∷◌, ◌++◌, List, ap, ◌∙◌}
use Rattle.std.proofs.lemmas.List.{replicate-append-replicate}
use Rattle.ddr_ledger.specs.declared.waited.Waited.{Waited}
use Rattle.ddr_ledger.specs.Waited.{no_wait}
use Rattle.ddr_ledger.proofs.ledger.no_waits.Goals as goal

pub loop-preserved : goal.loop-preserved
loop-preserved c =
    c.in_ok-push.ensures.items ∙ ap (λ (xs : List Waited). xs ++ no_wait ∷ []) c.loop.invariant ∙ replicate-append-replicate c.loop.counter 1 no_wait
