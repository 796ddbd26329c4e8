use Rattle.std.proofs.Common.{◌≡◌, map, replicate, vec_capacity}
use Rattle.ddr_workers.specs.Lanes.{AreLanes, lists}
use Rattle.ddr_workers.proofs.system.completion_lanes.Given as goal

abbrev pub invariant-loop-port : goal.invariant-loop-port
invariant-loop-port l = record {
  lanes : AreLanes (λ port. record { geometry = l.config.geometry; port = port }) l.config.limits.window l.config.geometry.channels l.port (lists l.rows.items) l.takes.items;
  room : map vec_capacity l.rows.items ≡ replicate l.config.geometry.channels l.config.limits.ports;
}
