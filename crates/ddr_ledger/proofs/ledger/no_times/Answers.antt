-- One port more.
use Rattle.std.proofs.Common.{[], ◌∷◌, ◌++◌, List, ap, ◌∙◌}
use Rattle.std.proofs.lemmas.List.{replicate-append-replicate}
use Rattle.ddr_ledger.specs.declared.times.Times.{Times}
use Rattle.ddr_ledger.specs.Times.{no_times}
use Rattle.ddr_ledger.proofs.ledger.no_times.Goals as goal

pub loop-preserved : goal.loop-preserved
loop-preserved c =
    c.in_ok-push.ensures.items ∙ ap (λ (xs : List Times). xs ++ no_times ∷ []) c.loop.invariant ∙ replicate-append-replicate c.loop.counter 1 no_times
