use Rattle.ddr_row_array.proofs.Slots.{IsSome-index}
use Rattle.ddr_row_array.proofs.row_array.RowArray.slot_of.Goals as goal

pub index-requires : goal.index-requires
index-requires c =
    IsSome-index c.self.inside c.args.address.bank c.args.address.row c.self.invariant (rw (← c.self.view_is) at c.requires)
