-- What the blocks of memory of a list stand for.
use Rattle.std.specs.Prelude.{◌≡◌, ℕ, ◌-◌, ◌*◌, ◌≤◌, ◌^◌, min, List, [], ◌∷◌, vec_len, vec_capacity}
use Rattle.std.specs.List.{flat_map}
use Rattle.std.specs.declared.alloc.Global.{Global}
use Rattle.std.specs.declared.vec.Vec.{Vec}
use Rattle.ddr_row_array.specs.declared.arena.Arena.TheInside.{Inside}
use Rattle.ddr_row_array.specs.Arena.{Reserved}

-- how many items a block has memory for
abbrev pub block_items : ℕ
block_items = 131072

module _ {T : Type 0} where
  -- the items of the blocks, one block behind the other
  abbrev pub items_of : List (Vec T Global) → List T
  items_of blocks = flat_map (λ block. block.items) blocks

  abbrev pub reserved_of : Inside T → Reserved T
  reserved_of a = record { items = items_of a.blocks.items; capacity = vec_len a.blocks * block_items }

  -- n items stand in the blocks: each is full before the next has one
  abbrev pub Fills : ℕ → List (Vec T Global) → Type 0
  Fills n [] = n ≡ 0
  Fills n (block ∷ blocks) = (vec_len block ≡ min n block_items) × (block_items ≤ vec_capacity block) × Fills (n - block_items) blocks

  pub record IsInOrder (a : Inside T) : Type 0 where
    pub filled : Fills a.len a.blocks.items
    pub bounded : vec_len a.blocks ≤ 2 ^ 40
