use Rattle.std.proofs.Common.{◌≡◌, ℕ, ◌+◌, ◌*◌, ◌<◌, Some, refl, sym, ap, ◌∙◌, arith}
use Rattle.std.specs.List.{slice_get}
use Rattle.ddr_hazards.specs.declared.banks.TheConstants.{BANKS}
use Rattle.ddr_hazards.specs.Banks.{bank_slots, in_bank, number}
use Rattle.ddr_hazards.proofs.Soundness.{found, not_found}
use Rattle.ddr_hazards.proofs.pending.Pending.in_bank.Goals as goal

pub returns-in_err-slot : goal.returns-in_err-slot
returns-in_err-slot c =
    let below : number c.args.rank c.args.group c.args.bank < BANKS = omega arith in
    c.from_residual.ensures ∙ sym (not_found c.self.inside c.args.rank c.args.group c.args.bank c.args.k c.self.invariant c.requires.group_in c.requires.bank_in below (sym (c.in_err-slot.ensures ∙ ap (λ n. slice_get (bank_slots c.self.inside.banks.lists n) c.args.k) c.number.ensures)))
    ∙ ap (λ p. in_bank c.args.rank c.args.group c.args.bank c.args.k p.waiting) c.self.view_is

pub place-requires : goal.place-requires
place-requires c =
    let below : number c.args.rank c.args.group c.args.bank < BANKS = omega arith in
    (found c.self.inside c.args.rank c.args.group c.args.bank c.args.k c.in_ok-slot.slot c.self.invariant c.requires.group_in c.requires.bank_in below (sym (c.in_ok-slot.ensures ∙ ap (λ n. slice_get (bank_slots c.self.inside.banks.lists n) c.args.k) c.number.ensures))).slot

pub returns : goal.returns
returns c =
    let below : number c.args.rank c.args.group c.args.bank < BANKS = omega arith in
    ap Some c.place.ensures
    ∙ (found c.self.inside c.args.rank c.args.group c.args.bank c.args.k c.in_ok-slot.slot c.self.invariant c.requires.group_in c.requires.bank_in below (sym (c.in_ok-slot.ensures ∙ ap (λ n. slice_get (bank_slots c.self.inside.banks.lists n) c.args.k) c.number.ensures))).place
    ∙ ap (λ p. in_bank c.args.rank c.args.group c.args.bank c.args.k p.waiting) c.self.view_is
