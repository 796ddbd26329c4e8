use Rattle.std.proofs.Common.{◌≡◌, ℕ}
use Rattle.ddr_world.specs.Kept.{state_of}
use Rattle.ddr_world.specs.Promise.{trace_at}
use Rattle.ddr_rounds.specs.Continues.{Continues}
use Rattle.ddr_rounds.specs.Rounds.{outstanding, ports_collected}
use Rattle.ddr_rounds.proofs.ports.collect_ports.Given as goal

abbrev pub invariant-loop-port : goal.invariant-loop-port
invariant-loop-port l = record {
  state : state_of l.world ≡ ports_collected l.port (state_of l.fn.world);
  outstanding : outstanding (state_of l.world) ≡ outstanding (state_of l.fn.world);
  traces : (c : ℕ) → trace_at (state_of l.world) c ≡ trace_at (state_of l.fn.world) c;
  config : l.world.config ≡ l.fn.world.config;
  keeps : l.world.keeps ≡ l.fn.world.keeps;
  continues : Continues l.fn.world l.world;
}
