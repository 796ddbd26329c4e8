-- One queue more.
use Rattle.std.proofs.Common.{[], ◌∷◌, ◌++◌, List, ap₂, ◌∙◌}
use Rattle.std.proofs.lemmas.List.{replicate-append-replicate}
use Rattle.ddr_stream.specs.declared.ask.Ask.{Ask}
use Rattle.ddr_stream.specs.Stream.{Queues}
use Rattle.ddr_stream.proofs.stream.empty_queues.Goals as goal

pub loop-preserved : goal.loop-preserved
loop-preserved c =
    c.in_ok-push.ensures.items ∙ ap₂ (λ (xs : Queues) (x : List Ask). xs ++ x ∷ []) c.loop.invariant c.new.ensures ∙ replicate-append-replicate c.loop.counter 1 []
