use Rattle.ddr_row_array.proofs.Blocks.{index_within, block_at, place_in_block, item_of}
use Rattle.ddr_row_array.proofs.arena.Arena.item.Goals as goal

pub index-requires : goal.index-requires
index-requires g c =
    block_at c.self.inside c.self.invariant c.args.index (index_within c.self.inside c.self.invariant c.args.index (rw (← c.self.view_is) at c.requires))

pub index-requires-2 : goal.index-requires-2
index-requires-2 g c =
    place_in_block c.self.inside c.self.invariant c.args.index (index_within c.self.inside c.self.invariant c.args.index (rw (← c.self.view_is) at c.requires)) c.index.result.now c.index.ensures

pub returns : goal.returns
returns g c =
    rw (← c.self.view_is)
    (item_of c.self.inside c.self.invariant c.args.index (index_within c.self.inside c.self.invariant c.args.index (rw (← c.self.view_is) at c.requires)) c.index.result.now c.index.ensures c.index-2.result.now c.index-2.ensures)
