use Rattle.std.proofs.Common.{◌≡◌}
use Rattle.ddr_channel_tests.proofs.channel.refusals.make_full_cycles.Given as goal

-- the configuration stays
abbrev pub invariant-loop-nth : goal.invariant-loop-nth
invariant-loop-nth g l = l.channel.config ≡ l.initial.channel.config
