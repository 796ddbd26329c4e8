use Rattle.std.proofs.Common.{◌≡◌, map, take}
use Rattle.ddr_world.specs.State.{PortSide}
use Rattle.ddr_world.proofs.world.taken_by.Given as goal

abbrev pub invariant-loop-side : goal.invariant-loop-side
invariant-loop-side l = l.counts.items ≡ map (λ (side : PortSide). side.taken) (take l.side-index l.ports)
