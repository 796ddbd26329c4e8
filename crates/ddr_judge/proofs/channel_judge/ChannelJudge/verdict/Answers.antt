-- The first fault of a command, or that of the trace's end, or none.
use Rattle.std.proofs.Common.{sym, ◌∙◌}
use Rattle.ddr_judge.specs.Records.{entries_of}
use Rattle.ddr_judge.proofs.HeardLemmas.{told_kept, verdict_at_end, verdict_at_fault, verdict_legal}
use Rattle.ddr_judge.proofs.channel_judge.ChannelJudge.verdict.Goals as goal

pub returns-then-is_some : goal.returns-then-is_some
returns-then-is_some c = λ config start records heard below.
    let l = c.args.self.now in
    verdict_at_fault l config start c.args.end records l.fault (sym c.is_some.ensures ∙ c.if-is_some.true) heard.told below

pub returns-then-ends_late : goal.returns-then-ends_late
returns-then-ends_late c = λ config start records heard below.
    let l = c.args.self.now in
    let kept = told_kept l config start records l.fault (sym c.is_some.ensures ∙ c.if-is_some.false) heard.told in
    verdict_at_end l config start c.args.end records kept below l.count heard.count (sym c.if-ends_late.true ∙ c.ends_late.ensures (entries_of records) kept.passed)

pub returns : goal.returns
returns c = λ config start records heard below.
    let l = c.args.self.now in
    let kept = told_kept l config start records l.fault (sym c.is_some.ensures ∙ c.if-is_some.false) heard.told in
    verdict_legal l config start c.args.end records kept below (sym c.if-ends_late.false ∙ c.ends_late.ensures (entries_of records) kept.passed)
