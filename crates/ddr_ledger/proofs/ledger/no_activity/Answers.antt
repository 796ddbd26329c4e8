-- One channel more.
use Rattle.std.proofs.Common.{[], ◌∷◌, ◌++◌, List, ap, ◌∙◌}
use Rattle.std.proofs.lemmas.List.{replicate-append-replicate}
use Rattle.ddr_ledger.specs.declared.activity.Activity.{Activity}
use Rattle.ddr_ledger.specs.Activity.{no_activity}
use Rattle.ddr_ledger.proofs.ledger.no_activity.Goals as goal

pub loop-preserved : goal.loop-preserved
loop-preserved c =
    c.in_ok-push.ensures.items ∙ ap (λ (xs : List Activity). xs ++ no_activity ∷ []) c.loop.invariant ∙ replicate-append-replicate c.loop.counter 1 no_activity
