use Rattle.std.proofs.Common.{◌≡◌, ◌++◌, map, take}
use Rattle.std.specs.List.{filter}
use Rattle.ddr_trace.specs.declared.rule.TheConstants.Rule.{ALL}
use Rattle.ddr_trace.specs.Rules.{breaks}
use Rattle.ddr_explain.specs.AllFaults.{fault_at}
use Rattle.ddr_explain.proofs.faults.add_faults.Given as goal

abbrev pub invariant-loop-rule : goal.invariant-loop-rule
invariant-loop-rule l =
    l.faults.items ≡ l.initial.faults.items ++ map (fault_at l.place) (filter (λ r. breaks l.config l.start l.end r l.history l.entry) (take l.rule-index ALL))
