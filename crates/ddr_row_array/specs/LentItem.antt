-- What becomes of a list whose items never move, once an item that was lent for writing is given back.
use Rattle.std.specs.Prelude.{ℕ, slice_set}
use Rattle.std.specs.Borrow.{Lends, MutBor, Fml, RattleType}
use Rattle.ddr_row_array.specs.contracts.arena.Arena.{the_row}
use Rattle.ddr_row_array.specs.Arena.{Reserved}

-- the list with another item at the index
abbrev pub with_item : {T : Type 0} → Reserved T → ℕ → T → Reserved T
with_item a index item = record a { items = slice_set a.items index item }

-- the list ends with what is left behind r at the index
abbrev pub LendsItem : (T : RattleType) → MutBor (Reserved T.Denot) → ℕ → MutBor T.Denot → Fml
LendsItem T a index r = Lends (the_row T) T a r (with_item a.now index)
