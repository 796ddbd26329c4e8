-- Changes in the order of their cycles.
use Rattle.std.specs.Prelude.{nat_le, if◌then◌else◌, List, [], ◌∷◌}
use Rattle.ddr_draw.specs.declared.change.Change.{Change}

-- the change, before those of its cycle and of later ones
abbrev pub placed : Change → List Change → List Change
placed a [] = a ∷ []
placed a (b ∷ bs) = if nat_le a.cycle b.cycle then a ∷ b ∷ bs else b ∷ placed a bs

-- the changes cycle by cycle, those of one cycle as they stood
abbrev pub in_order : List Change → List Change
in_order [] = []
in_order (a ∷ rest) = placed a (in_order rest)
