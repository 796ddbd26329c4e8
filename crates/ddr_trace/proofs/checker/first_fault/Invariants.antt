use Rattle.ddr_trace.proofs.FaultLemmas.{IsCleanBelow}
use Rattle.ddr_trace.proofs.checker.first_fault.Given as goal

abbrev pub invariant-loop-place : goal.invariant-loop-place
invariant-loop-place l = IsCleanBelow l.config l.start l.end l.entries l.place
