use Rattle.std.proofs.Common.{◌≡◌, map, replicate, vec_capacity}
use Rattle.ddr_workers.specs.Lanes.{AreLanes, lists}
use Rattle.ddr_workers.proofs.system.request_lanes.Given as goal

abbrev pub invariant-loop-channel : goal.invariant-loop-channel
invariant-loop-channel l = record {
  lanes : AreLanes (λ channel. record { geometry = l.config.geometry; channel = channel }) l.config.limits.intake l.config.limits.ports l.channel (lists l.rows.items) l.takes.items;
  room : map vec_capacity l.rows.items ≡ replicate l.config.limits.ports l.config.geometry.channels;
}
