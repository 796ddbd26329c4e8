use Rattle.std.proofs.Common.{◌≡◌, [], length}
use Rattle.ddr_judge.proofs.JudgedLemmas.{HeardEach}
use Rattle.ddr_judge.proofs.judge.Judge.open.Given as goal

abbrev pub invariant-loop-channel : goal.invariant-loop-channel
invariant-loop-channel l = record {
  each : length l.judges.items ≡ l._channel;
  heard : HeardEach l.judges.items l.config l.start [];
}
