-- One channel more.
use Rattle.std.proofs.Common.{[], ◌∷◌, ◌++◌, List, ap, ◌∙◌}
use Rattle.std.proofs.lemmas.List.{replicate-append-replicate}
use Rattle.ddr_ledger.specs.Stalls.{Stalled, no_stalls}
use Rattle.ddr_ledger.proofs.ledger.no_stalls.Goals as goal

pub loop-preserved : goal.loop-preserved
loop-preserved c =
    c.in_ok-push.ensures.items
    ∙ ap (λ (x : Stalled). c.loop.all.items ++ x ∷ []) c.in_ok-open.ensures
    ∙ ap (λ (xs : List Stalled). xs ++ no_stalls c.args.config.now ∷ []) c.loop.invariant ∙ replicate-append-replicate c.loop.counter 1 (no_stalls c.args.config.now)
