-- A comment more.
use Rattle.std.proofs.Common.{◌++◌, string_bytes, get_or, ap, ◌∙◌}
use Rattle.ddr_trace.specs.declared.rule.Rule.TheVariants as rule
use Rattle.ddr_trace.specs.declared.rule.TheConstants.Rule.{ALL}
use Rattle.ddr_explain.specs.Table.{count_line, count_of}
use Rattle.ddr_explain.proofs.TableLemmas.{counts_more}
use Rattle.ddr_explain.proofs.table.counts_text.Goals as goal

pub loop-rule-preserved : goal.loop-rule-preserved
loop-rule-preserved c =
    counts_more (λ r. count_line r (count_of c.args.faults.now r)) c.loop-rule.rule-index (string_bytes c.loop-rule.text) (string_bytes c.push_str.new.self) (string_bytes c.in_ok-line.line) c.loop-rule-test.true
    (c.in_ok-push_str.ensures.bytes ∙ ap (λ t. string_bytes c.loop-rule.text ++ t) c.as_str.ensures.value)
    (c.in_ok-line.ensures ∙ ap (count_line (get_or ALL c.loop-rule.rule-index rule.Order)) c.count_of.ensures)
    c.loop-rule.invariant
