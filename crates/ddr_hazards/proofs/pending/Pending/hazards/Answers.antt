use Rattle.std.proofs.Common.{◌≡◌, ltb, None, refl, sym, ap, ◌∙◌}
use Rattle.std.specs.List.{slice_get}
use Rattle.ddr_hazards.specs.Hazards.{hazard_count, is_blocked}
use Rattle.ddr_hazards.specs.Slots.{at, in_slots, taken}
use Rattle.ddr_hazards.proofs.HazardLemmas.{blocked_counted, hazard_count-none}
use Rattle.ddr_hazards.proofs.SlotLemmas.{none_held}
use Rattle.ddr_hazards.proofs.pending.Pending.hazards.Goals as goal

pub returns-in-Some-clause-exact : goal.returns-in-Some-clause-exact
returns-in-Some-clause-exact c =
    c.self.invariant.hazards c.args.place c.in-Some.slot (sym c.in-Some.ensures) ∙ ap (λ p. hazard_count p.waiting c.args.place) c.self.view_is

pub returns-in-Some-clause-blocks : goal.returns-in-Some-clause-blocks
returns-in-Some-clause-blocks c =
    blocked_counted c.args.self.now.waiting c.args.place
    ∙ ap (ltb 0) (sym (c.self.invariant.hazards c.args.place c.in-Some.slot (sym c.in-Some.ensures) ∙ ap (λ p. hazard_count p.waiting c.args.place) c.self.view_is))

pub returns-in-None-clause-exact : goal.returns-in-None-clause-exact
returns-in-None-clause-exact c =
    let none = none_held (at c.self.inside.slots) (taken c.self.inside.slots) (in_slots c.self.inside.slots) c.args.place c.self.invariant.ordered.full (sym c.in-None.ensures) in
    sym (hazard_count-none (in_slots c.self.inside.slots) c.args.place none) ∙ ap (λ p. hazard_count p.waiting c.args.place) c.self.view_is

pub returns-in-None-clause-blocks : goal.returns-in-None-clause-blocks
returns-in-None-clause-blocks c =
    let none = none_held (at c.self.inside.slots) (taken c.self.inside.slots) (in_slots c.self.inside.slots) c.args.place c.self.invariant.ordered.full (sym c.in-None.ensures) in
    blocked_counted c.args.self.now.waiting c.args.place
    ∙ ap (ltb 0) (sym (sym (hazard_count-none (in_slots c.self.inside.slots) c.args.place none) ∙ ap (λ p. hazard_count p.waiting c.args.place) c.self.view_is))
