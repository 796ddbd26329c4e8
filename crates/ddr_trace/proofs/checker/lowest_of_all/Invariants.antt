use Rattle.ddr_trace.specs.Rules.{breaks}
use Rattle.ddr_trace.proofs.LowestLemmas.{NoneBefore}
use Rattle.ddr_trace.proofs.checker.lowest_of_all.Given as goal

abbrev pub invariant-loop-rule : goal.invariant-loop-rule
invariant-loop-rule l = NoneBefore (λ r. breaks l.config l.start l.end r l.history l.entry) l.rule-index
