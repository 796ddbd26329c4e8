use Rattle.ddr_trace.proofs.LowestLemmas.{NoneBefore}
use Rattle.ddr_rank.specs.Breaks.{breaks_now}
use Rattle.ddr_rank.proofs.rank.Rank.lowest.Given as goal

abbrev pub invariant-loop-rule : goal.invariant-loop-rule
invariant-loop-rule l = NoneBefore (λ r. breaks_now l.self r l.cycle l.command) l.rule-index
