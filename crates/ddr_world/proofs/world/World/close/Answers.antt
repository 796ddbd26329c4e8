-- What is closed gave all.
use Rattle.std.proofs.Common.{map, sym, ap, subst, ◌∙◌}
use Rattle.ddr_world.specs.Close.{GaveAll}
use Rattle.ddr_world.specs.Kept.{Kept, state_of}
use Rattle.ddr_world.specs.State.{PortSide, IsDrained}
use Rattle.ddr_world.specs.View.{kept_of}
use Rattle.ddr_world.proofs.RecordLemmas.{closed_gave_all}
use Rattle.ddr_world.proofs.world.World.close.Goals as goal

pub returns-clause-whole : goal.returns-clause-whole
returns-clause-whole c =
    let a = c.self.inside in
    let drained = subst (λ (k : Kept). IsDrained (state_of k)) (sym c.self.view_is) (c.is_drained.ensures.0 c.if-not-is_drained.false) in
    subst (λ (k : Kept). GaveAll k (record { accepted = c.accepted_by.result.items; taken = c.taken_by.result.items; traces = c.traces_of.result.items })) c.self.view_is
    (closed_gave_all (kept_of a) (record { accepted = c.accepted_by.result.items; taken = c.taken_by.result.items; traces = c.traces_of.result.items }) c.self.invariant.channels_as_opened drained
    (c.accepted_by.ensures ∙ ap (map (λ (side : PortSide). side.accepted)) c.deref.ensures.value)
    (c.taken_by.ensures ∙ ap (map (λ (side : PortSide). side.taken)) c.deref-2.ensures.value)
    c.traces_of.ensures)
