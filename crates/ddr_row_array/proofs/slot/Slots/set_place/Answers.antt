use Rattle.std.proofs.Common.{◌≡◌, ◌-◌, ◌<◌, ◌∙◌, arith}
use Rattle.ddr_row_array.proofs.Tables.{slot_there, same_slot, untabled_enough, items-placed, IsTabled-both, items-both}
use Rattle.ddr_row_array.proofs.slot.Slots.set_place.Goals as goal

pub returns-then-start-ne-ZEROS-clause-items : goal.returns-then-start-ne-ZEROS-clause-items
returns-then-start-ne-ZEROS-clause-items c =
    let a = c.self.inside in
    let t = c.index.result.now in
    let set_t : 0 < t.start = let test = c.if-start-ne-ZEROS.true in omega arith in
    let there = slot_there a c.args.slot (rw (← c.self.view_is) at c.requires.in_slots) in
    let in_row : c.args.line < a.width = rw (← c.self.view_is) at c.requires.in_row in
    rw (← c.self.view_is) (items-placed a c.self.invariant c.args.slot c.args.line c.args.place t there in_row c.index.ensures set_t)

pub invariant_of-self-2 : goal.invariant_of-self-2
invariant_of-self-2 c =
    let a = c.self.inside in
    let t = c.index_mut.result.now in
    let is = c.index_mut.ensures.value in
    let there = slot_there a c.args.slot (rw (← c.self.view_is) at c.requires.in_slots) in
    let in_row : c.args.line < a.width = rw (← c.self.view_is) at c.requires.in_row in
    let zero : c.index.result.now.start ≡ 0 = let test = c.if-start-ne-ZEROS.false in omega arith in
    let unset = same_slot a.rows.items c.args.slot there c.index.result.now t c.index.ensures is ∙ zero in
    let less = untabled_enough a c.self.invariant c.args.slot t there is unset in
    IsTabled-both a c.self.invariant c.args.slot t there (omega arith) is unset (a.untabled - a.width) c.len-start.result c.push_copies.new.self (omega arith) c.len-start.ensures c.push_copies.ensures.items c.push_copies.ensures.capacity c.args.line c.args.place in_row

pub returns-clause-items : goal.returns-clause-items
returns-clause-items c =
    let a = c.self.inside in
    let t = c.index_mut.result.now in
    let is = c.index_mut.ensures.value in
    let there = slot_there a c.args.slot (rw (← c.self.view_is) at c.requires.in_slots) in
    let in_row : c.args.line < a.width = rw (← c.self.view_is) at c.requires.in_row in
    let zero : c.index.result.now.start ≡ 0 = let test = c.if-start-ne-ZEROS.false in omega arith in
    let unset = same_slot a.rows.items c.args.slot there c.index.result.now t c.index.ensures is ∙ zero in
    let less = untabled_enough a c.self.invariant c.args.slot t there is unset in
    rw (← c.self.view_is)
    (items-both a c.self.invariant c.args.slot t there (omega arith) is unset (a.untabled - a.width) c.len-start.result c.push_copies.new.self (omega arith) c.len-start.ensures c.push_copies.ensures.items c.push_copies.ensures.capacity c.args.line c.args.place in_row)
