use Rattle.ddr_row_array.proofs.Entered.{one_at, fits_at, IsEntered-at}
use Rattle.ddr_row_array.proofs.store.Store.enter.Goals as goal

pub push_reserved-requires : goal.push_reserved-requires
push_reserved-requires c =
    fits_at c.args.self.now c.requires.kept c.args.slot c.args.line c.requires.there c.place-place.result c.place-place.ensures c.if-place-ne-ZEROS.false

pub overflow_sub-self : goal.overflow_sub-self
overflow_sub-self c =
    one_at c.args.self.now c.requires.kept c.args.slot c.args.line c.requires.there c.place-place.result c.place-place.ensures c.if-place-ne-ZEROS.false

pub returns-clause-kept : goal.returns-clause-kept
returns-clause-kept c =
    (IsEntered-at c.args.self.now c.requires.kept c.args.slot c.args.line c.requires.there c.place-place.result c.place-place.ensures c.if-place-ne-ZEROS.false
    c.len-place.result c.push_reserved.new.self c.set_place.new.self c.len-place.ensures c.push_reserved.ensures.items c.push_reserved.ensures.capacity c.set_place.ensures.width c.set_place.ensures.items).kept

pub returns-clause-there : goal.returns-clause-there
returns-clause-there c =
    (IsEntered-at c.args.self.now c.requires.kept c.args.slot c.args.line c.requires.there c.place-place.result c.place-place.ensures c.if-place-ne-ZEROS.false
    c.len-place.result c.push_reserved.new.self c.set_place.new.self c.len-place.ensures c.push_reserved.ensures.items c.push_reserved.ensures.capacity c.set_place.ensures.width c.set_place.ensures.items).there

pub returns-clause-place : goal.returns-clause-place
returns-clause-place c =
    (IsEntered-at c.args.self.now c.requires.kept c.args.slot c.args.line c.requires.there c.place-place.result c.place-place.ensures c.if-place-ne-ZEROS.false
    c.len-place.result c.push_reserved.new.self c.set_place.new.self c.len-place.ensures c.push_reserved.ensures.items c.push_reserved.ensures.capacity c.set_place.ensures.width c.set_place.ensures.items).place

pub returns-clause-rows : goal.returns-clause-rows
returns-clause-rows c =
    (IsEntered-at c.args.self.now c.requires.kept c.args.slot c.args.line c.requires.there c.place-place.result c.place-place.ensures c.if-place-ne-ZEROS.false
    c.len-place.result c.push_reserved.new.self c.set_place.new.self c.len-place.ensures c.push_reserved.ensures.items c.push_reserved.ensures.capacity c.set_place.ensures.width c.set_place.ensures.items).rows
