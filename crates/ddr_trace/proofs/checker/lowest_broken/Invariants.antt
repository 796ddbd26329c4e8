use Rattle.std.proofs.Common.{◌&&◌}
use Rattle.ddr_trace.specs.Rules.{breaks, is_on_commands}
use Rattle.ddr_trace.proofs.LowestLemmas.{NoneBefore}
use Rattle.ddr_trace.proofs.checker.lowest_broken.Given as goal

abbrev pub invariant-loop-rule : goal.invariant-loop-rule
invariant-loop-rule l = NoneBefore (λ r. is_on_commands r && breaks l.config l.start l.end r l.history l.entry) l.rule-index
