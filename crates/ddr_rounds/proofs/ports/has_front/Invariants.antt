use Rattle.std.proofs.Common.{◌≡◌, ◌<◌, ℕ, None}
use Rattle.ddr_world.specs.History.{front_of}
use Rattle.ddr_world.specs.Kept.{state_of}
use Rattle.ddr_world.specs.Served.{front_service}
use Rattle.ddr_rounds.proofs.ports.has_front.Given as goal

abbrev pub invariant-loop-port : goal.invariant-loop-port
invariant-loop-port l = record {
  replies : (p : ℕ) → p < l.port → front_of (state_of l.world) p ≡ None;
  services : (p : ℕ) → p < l.port → front_service (state_of l.world) p ≡ None;
}
