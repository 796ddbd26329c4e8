use Rattle.std.proofs.Common.{◌≡◌, Some, subst}
use Rattle.ddr_row_array.specs.declared.row_array.OpenRow.{OpenRow}
use Rattle.ddr_row_array.specs.View.{slot_of}
use Rattle.ddr_row_array.proofs.Opened.{opened-set, bank_within, bank_within_list, IsSound-opened}
use Rattle.ddr_row_array.proofs.row_array.RowArray.activate.Goals as goal

pub invariant_of-self : goal.invariant_of-self
invariant_of-self c =
    let within = bank_within c.self.inside c.args.bank (rw (← c.self.view_is) at c.requires.bank_in) in
    let opened : OpenRow = record { row = c.args.row; slot = c.slot_of-slot.result } in
    let place : slot_of c.self.inside.store c.args.bank c.args.row ≡ Some c.slot_of-slot.result = rw (← c.self.view_is) at c.slot_of-slot.ensures in
    IsSound-opened c.self.inside c.args.bank (Some opened) c.self.invariant within
    (λ o e. let same : opened ≡ o = cc in
    subst (λ (o : OpenRow). slot_of c.self.inside.store c.args.bank o.row ≡ Some o.slot) same place)

pub returns-clause-opened : goal.returns-clause-opened
returns-clause-opened c =
    let within = bank_within_list c.self.inside c.args.bank (rw (← c.self.view_is) at c.requires.bank_in) in
    rw (← c.self.view_is) (λ b. opened-set c.self.inside.opened.items c.args.bank b (Some _) within)
