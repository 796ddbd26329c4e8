use Rattle.std.proofs.Common.{◌≡◌, ◌-◌, ◌≤◌}
use Rattle.ddr_workers.specs.Port.{after_ends}
use Rattle.ddr_workers.proofs.port.Port.end_all.Given as goal

abbrev pub invariant-loop-channel : goal.invariant-loop-channel
invariant-loop-channel g l = record {
  begun : l.initial.self.ended ≤ l.channel;
  state : l.self ≡ after_ends (l.channel - l.initial.self.ended) l.initial.self;
}
