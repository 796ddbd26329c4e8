use Rattle.std.proofs.Common.{◌≡◌, ◌∙◌, sym, ap}
use Rattle.std.specs.List.{slice_get}
use Rattle.std.proofs.lemmas.Option.{none-some}
use Rattle.ddr_hazards.specs.Slots.{at, in_slots, taken}
use Rattle.ddr_hazards.proofs.SlotLemmas.{held_at}
use Rattle.ddr_hazards.proofs.pending.Pending.get.Goals as goal

pub returns : goal.returns
returns c =
    let s = c.self.inside.slots in
    let v = held_at (at s) (taken s) (in_slots s) c.args.place c.in_ok-slot.slot c.self.invariant.ordered.full (sym c.in_ok-slot.ensures) in
    c.in_ok-waiting.ensures ∙ v.1 ∙ sym v.2 ∙ ap (λ p. slice_get p.waiting c.args.place) c.self.view_is

pub returns-in_err-waiting : goal.returns-in_err-waiting
returns-in_err-waiting c =
    let s = c.self.inside.slots in
    let v = held_at (at s) (taken s) (in_slots s) c.args.place c.in_ok-slot.slot c.self.invariant.ordered.full (sym c.in_ok-slot.ensures) in
    absurd (none-some v.0 (c.in_err-waiting.ensures ∙ v.1))
