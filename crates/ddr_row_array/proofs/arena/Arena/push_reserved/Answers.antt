use Rattle.std.proofs.Common.{◌*◌, ◌<◌, [], ◌∷◌, length, arith, vec_len}
use Rattle.ddr_row_array.specs.Blocks.{items_of}
use Rattle.ddr_row_array.proofs.Blocks.{filled_le, small, end_at, end_capacity, end_room, IsInOrder-pushed, items_of-pushed}
use Rattle.ddr_row_array.proofs.arena.Arena.push_reserved.Goals as goal

pub index_mut-requires : goal.index_mut-requires
index_mut-requires g c =
    end_at c.self.inside c.self.invariant (rw (← c.self.view_is) at c.requires)

pub push_reserved-requires : goal.push_reserved-requires
push_reserved-requires g c =
    end_room c.self.inside c.self.invariant (rw (← c.self.view_is) at c.requires) c.index_mut.result.now c.index_mut.ensures.value

pub overflow_add-self : goal.overflow_add-self
overflow_add-self g c =
    let a = c.self.inside in
    let most = filled_le a.len a.blocks.items c.self.invariant.filled in
    let bounded = c.self.invariant.bounded in
    record { fits = omega (arith, a.blocks.ok.0) }

pub invariant_of-self : goal.invariant_of-self
invariant_of-self g c =
    let a = c.self.inside in
    let room : length (items_of a.blocks.items) < vec_len a.blocks * 131072 = rw (← c.self.view_is) at c.requires in
    let b = c.index_mut.result.now in
    let is = c.index_mut.ensures.value in
    let below = small a.len in
    let memory = end_capacity a c.self.invariant room b is in
    let same = c.push_reserved.ensures.capacity in
    IsInOrder-pushed a c.self.invariant room b is c.push_reserved.new.self 1 (omega arith) c.push_reserved.ensures.len (omega arith)

pub returns-clause-items : goal.returns-clause-items
returns-clause-items g c =
    let a = c.self.inside in
    let room : length (items_of a.blocks.items) < vec_len a.blocks * 131072 = rw (← c.self.view_is) at c.requires in
    let b = c.index_mut.result.now in
    let is = c.index_mut.ensures.value in
    rw (← c.self.view_is) (items_of-pushed a c.self.invariant room b is c.push_reserved.new.self (c.args.item ∷ []) c.push_reserved.ensures.items)
