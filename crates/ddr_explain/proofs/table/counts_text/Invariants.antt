use Rattle.std.proofs.Common.{◌≡◌, take, string_bytes}
use Rattle.std.specs.Prelude.{flat_map}
use Rattle.ddr_trace.specs.declared.rule.TheConstants.Rule.{ALL}
use Rattle.ddr_explain.specs.Table.{count_line, count_of}
use Rattle.ddr_explain.proofs.table.counts_text.Given as goal

abbrev pub invariant-loop-rule : goal.invariant-loop-rule
invariant-loop-rule l = string_bytes l.text ≡ flat_map (λ r. count_line r (count_of l.faults r)) (take l.rule-index ALL)
