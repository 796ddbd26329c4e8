use Rattle.std.proofs.Common.{◌≡◌, ◌++◌, ◌&&◌, drop, string_bytes}
use Rattle.ddr_run.specs.Outcome.{are_legal, channel_lines}
use Rattle.ddr_run.proofs.outcome.verdicts_of.Given as goal

abbrev pub invariant-loop-channel : goal.invariant-loop-channel
invariant-loop-channel l = record {
  text : string_bytes l.text ++ channel_lines l.channel (drop l.channel l.faults) ≡ channel_lines 0 l.faults;
  legal : (l.legal && are_legal (drop l.channel l.faults)) ≡ are_legal l.faults;
}
