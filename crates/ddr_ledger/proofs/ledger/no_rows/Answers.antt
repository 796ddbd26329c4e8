-- One port more.
use Rattle.std.proofs.Common.{[], ◌∷◌, ◌++◌, List, ap, ◌∙◌}
use Rattle.std.proofs.lemmas.List.{replicate-append-replicate}
use Rattle.ddr_ledger.specs.declared.rows.Rows.{Rows}
use Rattle.ddr_ledger.specs.Rows.{no_rows}
use Rattle.ddr_ledger.proofs.ledger.no_rows.Goals as goal

pub loop-preserved : goal.loop-preserved
loop-preserved c =
    c.in_ok-push.ensures.items ∙ ap (λ (xs : List Rows). xs ++ no_rows ∷ []) c.loop.invariant ∙ replicate-append-replicate c.loop.counter 1 no_rows
