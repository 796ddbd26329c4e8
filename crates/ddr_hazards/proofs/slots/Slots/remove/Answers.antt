use Rattle.std.proofs.Common.{◌≡◌, ℕ, ◌+◌, ◌-◌, ◌<◌, set, Some, None, refl, sym, ap, ◌∙◌, arith}
use Rattle.std.specs.List.{slice_get}
use Rattle.ddr_hazards.specs.declared.slots.Slots.{Slots}
use Rattle.ddr_hazards.specs.Slots.{at, in_slots, taken, IsOrdered}
use Rattle.ddr_hazards.proofs.SlotLemmas.{held_at, none_held, remove_none}
use Rattle.ddr_hazards.proofs.Order.{stands, Removed, taken-remove, in_slots-remove, others-remove, IsOrdered-remove}
use Rattle.ddr_hazards.proofs.slots.Slots.remove.Goals as goal

pub returns-in_err-slot-clause-order : goal.returns-in_err-slot-clause-order
returns-in_err-slot-clause-order c = sym (remove_none (taken c.args.self.now) c.args.place (sym c.in_err-slot.ensures))

pub returns-in_err-slot-clause-request : goal.returns-in_err-slot-clause-request
returns-in_err-slot-clause-request c =
    let none = none_held (at c.args.self.now) (taken c.args.self.now) (in_slots c.args.self.now) c.args.place c.requires.full (sym c.in_err-slot.ensures) in
    rw c.from_residual.ensures (sym none)

pub returns-in_err-slot-clause-held : goal.returns-in_err-slot-clause-held
returns-in_err-slot-clause-held c =
    let none = none_held (at c.args.self.now) (taken c.args.self.now) (in_slots c.args.self.now) c.args.place c.requires.full (sym c.in_err-slot.ensures) in
    sym (remove_none (in_slots c.args.self.now) c.args.place none)

pub unreachable-requires : goal.unreachable-requires
unreachable-requires c =
    let w = held_at (at c.args.self.now) (taken c.args.self.now) (in_slots c.args.self.now) c.args.place c.in_ok-slot.slot c.requires.full (sym c.in_ok-slot.ensures) in
    c.in_default.not-Some w.0 (c.empty.ensures.value ∙ w.1)

pub empty-requires : goal.empty-requires
empty-requires c =
    let a = c.args.self.now in
    let st = stands a c.args.place c.in_ok-slot.slot c.requires (sym c.in_ok-slot.ensures) in
    omega (arith, st.slot, c.requires.cells)

pub to_end-requires : goal.to_end-requires
to_end-requires c =
    let st = stands c.args.self.now c.args.place c.in_ok-slot.slot c.requires (sym c.in_ok-slot.ensures) in
    omega (arith, st.taken, c.requires.len)

pub overflow_cast-place : goal.overflow_cast-place
overflow_cast-place c =
    let st = stands c.args.self.now c.args.place c.in_ok-slot.slot c.requires (sym c.in_ok-slot.ensures) in
    omega (arith, st.taken, c.requires.len)

pub bounds-self-slot : goal.bounds-self-slot
bounds-self-slot c = (stands c.args.self.now c.args.place c.in_ok-slot.slot c.requires (sym c.in_ok-slot.ensures)).slot

one_less : (n p : ℕ) → p < n → n - 1 + 1 ≡ n
one_less n p within = omega arith

pub returns-clause-request : goal.returns-clause-request
returns-clause-request c =
    let w = held_at (at c.args.self.now) (taken c.args.self.now) (in_slots c.args.self.now) c.args.place c.in_ok-slot.slot c.requires.full (sym c.in_ok-slot.ensures) in
    sym c.in-Some.is ∙ c.empty.ensures.value ∙ w.1 ∙ sym w.2

pub returns-clause-order : goal.returns-clause-order
returns-clause-order c = taken-remove c.args.self.now _ c.args.place c.in_ok-slot.slot (record { ordered = c.requires; there = sym c.in_ok-slot.ensures; cells = c.empty.ensures.after; order = c.to_end.ensures; places = ap (λ ps. set ps c.in_ok-slot.slot 63) c.lower_above.ensures; len = one_less c.args.self.now.len c.args.place (stands c.args.self.now c.args.place c.in_ok-slot.slot c.requires (sym c.in_ok-slot.ensures)).taken })

pub returns-clause-held : goal.returns-clause-held
returns-clause-held c = in_slots-remove c.args.self.now _ c.args.place c.in_ok-slot.slot (record { ordered = c.requires; there = sym c.in_ok-slot.ensures; cells = c.empty.ensures.after; order = c.to_end.ensures; places = ap (λ ps. set ps c.in_ok-slot.slot 63) c.lower_above.ensures; len = one_less c.args.self.now.len c.args.place (stands c.args.self.now c.args.place c.in_ok-slot.slot c.requires (sym c.in_ok-slot.ensures)).taken })

pub returns-clause-others : goal.returns-clause-others
returns-clause-others c = others-remove c.args.self.now _ c.args.place c.in_ok-slot.slot (record { ordered = c.requires; there = sym c.in_ok-slot.ensures; cells = c.empty.ensures.after; order = c.to_end.ensures; places = ap (λ ps. set ps c.in_ok-slot.slot 63) c.lower_above.ensures; len = one_less c.args.self.now.len c.args.place (stands c.args.self.now c.args.place c.in_ok-slot.slot c.requires (sym c.in_ok-slot.ensures)).taken })

pub returns-clause-ordered : goal.returns-clause-ordered
returns-clause-ordered c = IsOrdered-remove c.args.self.now _ c.args.place c.in_ok-slot.slot (record { ordered = c.requires; there = sym c.in_ok-slot.ensures; cells = c.empty.ensures.after; order = c.to_end.ensures; places = ap (λ ps. set ps c.in_ok-slot.slot 63) c.lower_above.ensures; len = one_less c.args.self.now.len c.args.place (stands c.args.self.now c.args.place c.in_ok-slot.slot c.requires (sym c.in_ok-slot.ensures)).taken })
