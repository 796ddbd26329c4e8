use Rattle.std.proofs.Common.{◌≡◌}
use Rattle.ddr_channel_tests.proofs.channel.admit_all.Given as goal

-- the configuration stays
abbrev pub invariant-loop-number : goal.invariant-loop-number
invariant-loop-number l = record {
  can_next : (goal.iterator-loop-number).can_next l.number-iterator;
  is_finite : (goal.iterator-loop-number).is_finite l.number-iterator;
  config : l.channel.config ≡ l.initial.channel.config;
}
