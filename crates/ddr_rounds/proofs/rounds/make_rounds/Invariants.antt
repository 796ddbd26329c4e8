use Rattle.std.proofs.Common.{◌≡◌, ◌≤◌, ◌-◌, Some}
use Rattle.ddr_world.specs.Kept.{state_of}
use Rattle.ddr_rounds.specs.Continues.{Continues}
use Rattle.ddr_rounds.specs.Drains.{AreRaised, drained}
use Rattle.ddr_rounds.specs.Rounds.{rounds}
use Rattle.ddr_rounds.specs.Telling.{IsHeard}
use Rattle.ddr_rounds.proofs.rounds.make_rounds.Given as goal

abbrev pub invariant-rounds : goal.invariant-rounds
invariant-rounds g l = record {
  within : l.made ≤ l.count;
  made : rounds l.fn.world.config l.made (state_of l.fn.world) ≡ Some (state_of l.world);
  heard : IsHeard g.W.Watcher.hears l.fn.watcher l.watcher (state_of l.fn.world) (state_of l.world);
  drains : AreRaised l.channels (drained l.fn.world.config l.made (state_of l.fn.world)) l.fn.drains l.drains;
  config : l.world.config ≡ l.fn.world.config;
  keeps : l.world.keeps ≡ l.fn.world.keeps;
  continues : Continues l.fn.world l.world;
}

abbrev pub decreases-rounds : goal.decreases-rounds
decreases-rounds g l = l.count - l.made
