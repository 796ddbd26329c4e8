use Rattle.std.proofs.Common.{refl, arith}
use Rattle.ddr_row_array.proofs.Tables.{IsTabled-same}
use Rattle.ddr_row_array.proofs.slot.Slots.reserve.Goals as goal

pub invariant_of-self : goal.invariant_of-self
invariant_of-self c =
    let a = c.self.inside in
    IsTabled-same a (record a { rows = c.reserve.new.self }) c.self.invariant refl c.reserve.ensures.items refl refl (omega arith) c.self.invariant.bounded

pub invariant_of-self-in_err-reserve-2 : goal.invariant_of-self-in_err-reserve-2
invariant_of-self-in_err-reserve-2 c =
    let a = c.self.inside in
    IsTabled-same a (record a { rows = c.reserve.new.self; words = c.reserve-2.new.self }) c.self.invariant refl c.reserve.ensures.items c.reserve-2.ensures.items refl c.reserve-2.ensures.kept c.reserve-2.ensures.bounded

pub invariant_of-self-2 : goal.invariant_of-self-2
invariant_of-self-2 c =
    let a = c.self.inside in
    IsTabled-same a (record a { rows = c.reserve.new.self; words = c.reserve-2.new.self }) c.self.invariant refl c.reserve.ensures.items c.reserve-2.ensures.items refl c.reserve-2.ensures.kept c.reserve-2.ensures.bounded
