use Rattle.std.proofs.Common.{◌≡◌, ◌++◌, ℕ, Some, fold}
use Rattle.ddr_world.specs.Kept.{state_of}
use Rattle.ddr_world.specs.Promise.{trace_at}
use Rattle.ddr_rounds.specs.Continues.{Continues}
use Rattle.ddr_rounds.specs.Rounds.{channels_served, outstanding}
use Rattle.ddr_rounds.specs.Telling.{IsHeard, channels_told, entries_told}
use Rattle.ddr_rounds.proofs.channels.serve_channels.Given as goal

abbrev pub invariant-loop-channel : goal.invariant-loop-channel
invariant-loop-channel g l = record {
  served : channels_served l.channel (state_of l.fn.world) ≡ Some (state_of l.world);
  told : l.watcher ≡ fold g.W.Watcher.hears l.fn.watcher (channels_told l.channel (state_of l.fn.world));
  trace : (d : ℕ) → trace_at (state_of l.world) d ≡ trace_at (state_of l.fn.world) d ++ entries_told d (channels_told l.channel (state_of l.fn.world));
  heard : IsHeard g.W.Watcher.hears l.fn.watcher l.watcher (state_of l.fn.world) (state_of l.world);
  outstanding : outstanding (state_of l.world) ≡ outstanding (state_of l.fn.world);
  config : l.world.config ≡ l.fn.world.config;
  keeps : l.world.keeps ≡ l.fn.world.keeps;
  continues : Continues l.fn.world l.world;
}
