use Rattle.std.proofs.Common.{ℕ, ◌<◌}
use Rattle.ddr_replay.specs.Laws.{IsLegalAt}
use Rattle.ddr_replay.proofs.laws.all_are_legal.Given as goal

abbrev pub invariant-loop-channel : goal.invariant-loop-channel
invariant-loop-channel l = (c : ℕ) → c < l.channel → IsLegalAt l.world c
