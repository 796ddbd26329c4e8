use Rattle.std.proofs.Common.{refl}
use Rattle.ddr_row_array.proofs.Blocks.{index_within, block_at, place_in_block, item_of, IsInOrder-lent, reserved_of-lent}
use Rattle.ddr_row_array.proofs.arena.Arena.item_mut.Goals as goal

pub index_mut-block-requires : goal.index_mut-block-requires
index_mut-block-requires g c =
    block_at c.self.inside c.self.invariant c.args.index (index_within c.self.inside c.self.invariant c.args.index (rw (← c.self.view_is) at c.requires))

pub index_mut-requires : goal.index_mut-requires
index_mut-requires g c =
    place_in_block c.self.inside c.self.invariant c.args.index (index_within c.self.inside c.self.invariant c.args.index (rw (← c.self.view_is) at c.requires)) c.index_mut-block.result.now c.index_mut-block.ensures.value

pub invariant_of-self-lent : goal.invariant_of-self-lent
invariant_of-self-lent g c =
    IsInOrder-lent c.self.inside c.self.invariant c.args.index (index_within c.self.inside c.self.invariant c.args.index (rw (← c.self.view_is) at c.requires)) c.index_mut-block.result.now c.index_mut-block.ensures.value

pub returns : goal.returns
returns g c =
    let a = c.self.inside in
    let k = c.args.index in
    let within = index_within a c.self.invariant k (rw (← c.self.view_is) at c.requires) in
    let b = c.index_mut-block.result.now in
    let is = c.index_mut-block.ensures.value in (
      (refl, λ w. rw (← c.self.view_is) (reserved_of-lent a c.self.invariant k within b is w)),
      record {
        writes_back = tt;
        value = rw (← c.self.view_is) (item_of a c.self.invariant k within b is c.index_mut.result.now c.index_mut.ensures.value);
      },
    )
