use Rattle.std.proofs.Common.{◌≡◌, true, false, is_ok}
use Rattle.ddr_world.specs.Events.{event_of}
use Rattle.ddr_world.specs.Kept.{state_of}
use Rattle.ddr_world.specs.Step.{step}
use Rattle.ddr_rounds.specs.Continues.{Continues}
use Rattle.ddr_rounds.specs.Rounds.{items_of, repeated, until_refused}
use Rattle.ddr_rounds.proofs.events.repeat.Given as goal

abbrev pub invariant-items : goal.invariant-items
invariant-items l = record {
  state : repeated (items_of (state_of l.world) (event_of l.event)) (event_of l.event) (state_of l.world) ≡ until_refused (event_of l.event) (state_of l.fn.world);
  made : l.some ≡ true → is_ok (step (state_of l.fn.world) (event_of l.event)) ≡ true;
  none : l.some ≡ false → state_of l.world ≡ state_of l.fn.world;
  config : l.world.config ≡ l.fn.world.config;
  keeps : l.world.keeps ≡ l.fn.world.keeps;
  continues : Continues l.fn.world l.world;
}

abbrev pub decreases-items : goal.decreases-items
decreases-items l = items_of (state_of l.world) (event_of l.event)
