-- The channels before were counted.
use Rattle.ddr_world.specs.Kept.{state_of}
use Rattle.ddr_rounds.specs.Drains.{counted_in}
use Rattle.ddr_rounds.proofs.DrainLemmas.{AreRaisedBelow}
use Rattle.ddr_rounds.proofs.drains.count_drains.Given as goal

abbrev pub invariant-loop-channel : goal.invariant-loop-channel
invariant-loop-channel l = AreRaisedBelow l.channel (counted_in l.cycles (state_of l.world)) l.fn.drains l.drains
