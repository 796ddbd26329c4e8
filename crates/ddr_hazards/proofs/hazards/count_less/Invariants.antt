use Rattle.std.proofs.Common.{◌≡◌, drop, length}
use Rattle.ddr_hazards.specs.declared.slots.TheConstants.{CAPACITY}
use Rattle.ddr_hazards.specs.Slots.{at, count_less, is_line}
use Rattle.ddr_hazards.proofs.hazards.count_less.Given as goal

abbrev pub invariant-loop-slot : goal.invariant-loop-slot
invariant-loop-slot l =
    (length l.hazards ≡ CAPACITY)
    × (count_less (is_line (at l.slots) l.place) (drop l.slot-index l.behind) l.hazards ≡ count_less (is_line (at l.slots) l.place) l.behind l.fn.hazards)
