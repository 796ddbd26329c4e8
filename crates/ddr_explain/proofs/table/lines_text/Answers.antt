-- A line more.
use Rattle.std.proofs.Common.{◌≡◌, ◌++◌, string_bytes, true, ap, ◌∙◌, arith}
use Rattle.std.proofs.lemmas.List.{take_all}
use Rattle.std.proofs.lemmas.List.Elements.{All-get_or}
use Rattle.ddr_trace.specs.declared.checker.Fault.{Fault}
use Rattle.ddr_trace.specs.declared.rule.Rule.TheVariants as rule
use Rattle.ddr_trace.specs.Legality.{breaks_at}
use Rattle.ddr_explain.proofs.TableLemmas.{table_more, table_open}
use Rattle.ddr_explain.proofs.table.lines_text.Goals as goal

pub loop-fault-init : goal.loop-fault-init
loop-fault-init c = table_open c.args.config.now c.args.start c.args.end c.args.entries.now _ c.new-text.ensures.bytes

pub fault_line-requires : goal.fault_line-requires
fault_line-requires c =
    All-get_or (λ (fault : Fault). breaks_at c.args.config.now c.args.start c.args.end c.args.entries.now fault.place fault.rule ≡ true) c.args.faults.now c.loop-fault.fault-index (record { place = 0; rule = rule.Order }) c.loop-fault-test.true c.requires

pub loop-fault-preserved : goal.loop-fault-preserved
loop-fault-preserved c =
    table_more c.args.config.now c.args.start c.args.end c.args.entries.now c.args.faults.now c.loop-fault.fault-index (record { place = 0; rule = rule.Order }) (string_bytes c.loop-fault.text) (string_bytes c.push_str.new.self) (string_bytes c.in_ok-line.line)
    c.loop-fault-test.true c.loop-fault.invariant c.in_ok-line.ensures (c.in_ok-push_str.ensures.bytes ∙ ap (λ t. string_bytes c.loop-fault.text ++ t) c.as_str.ensures.value)

pub returns : goal.returns
returns c =
    rw (take_all c.loop-fault.fault-index c.args.faults.now (omega arith)) at c.loop-fault.invariant
