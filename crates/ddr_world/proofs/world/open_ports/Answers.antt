-- One port more.
use Rattle.std.proofs.Common.{[], ◌∷◌, ◌++◌, List, ap₂, arith, sym, ◌∙◌}
use Rattle.std.proofs.lemmas.List.FromFn.{map-range_with_len_more}
use Rattle.ddr_world.specs.State.{PortSide, opened_port}
use Rattle.ddr_world.proofs.world.open_ports.Goals as goal

pub loop-port-preserved : goal.loop-port-preserved
loop-port-preserved c =
    let n = c.loop-port.port in
    c.in_ok-push.ensures.items
    ∙ ap₂ (λ (xs : List PortSide) (x : PortSide). xs ++ x ∷ []) c.loop-port.invariant c.in_ok-open.ensures
    ∙ sym (map-range_with_len_more (opened_port c.args.config.now c.args.first) 0 n n (omega arith))
