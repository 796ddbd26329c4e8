use Rattle.std.proofs.Common.{◌≡◌, ◌++◌, length, map, take, drop}
use Rattle.ddr_hazards.specs.declared.slots.TheConstants.{CAPACITY}
use Rattle.ddr_hazards.specs.Slots.{lowered}
use Rattle.ddr_hazards.proofs.slots.lower_above.Given as goal

abbrev pub invariant-loop-it : goal.invariant-loop-it
invariant-loop-it l = record { long : length l.places ≡ CAPACITY; so_far : l.places ≡ map (lowered l.place) (take l.it-index l.fn.places) ++ drop l.it-index l.fn.places }
