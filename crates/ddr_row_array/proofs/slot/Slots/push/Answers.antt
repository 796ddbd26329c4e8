use Rattle.std.proofs.Common.{◌+◌, refl}
use Rattle.ddr_row_array.specs.declared.slot.StoredRow.{StoredRow}
use Rattle.ddr_row_array.proofs.Tables.{IsTabled-pushed, has_both}
use Rattle.ddr_row_array.proofs.slot.Slots.push.Goals as goal

pub invariant_of-self : goal.invariant_of-self
invariant_of-self c =
    let a = c.self.inside in
    let t : StoredRow = record { address = c.args.address; start = 0 } in
    IsTabled-pushed a (record a { rows = c.push_reserved.new.self; untabled = a.untabled + a.width }) t c.self.invariant refl refl refl c.push_reserved.ensures.items refl
    (has_both a (rw (← c.self.view_is) at c.requires))
