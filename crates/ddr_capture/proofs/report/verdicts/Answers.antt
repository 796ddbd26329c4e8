use Rattle.std.proofs.Common.{◌≡◌, [], ◌∷◌, ◌++◌, rules, subst}
use Rattle.ddr_capture.specs.Report.{AreVerdicts}
use Rattle.ddr_capture.proofs.ReadLemmas.{verdicts_more, verdicts_none}
use Rattle.ddr_capture.proofs.report.verdicts.Goals as goal

pub loop-at-init : goal.loop-at-init
loop-at-init c = λ config start records has. rw c.new-verdicts.ensures.items (verdicts_none config start c.args.end records c.args.first)

pub loop-at-preserved : goal.loop-at-preserved
loop-at-preserved c = λ config start records has.
    let grown : c.push.new.self.items ≡ c.loop-at.verdicts.items ++ c.verdict.result ∷ [] = search rules in
    rw grown (verdicts_more config start c.args.end records c.args.first c.loop-at.at c.loop-at.verdicts.items c.verdict.result (c.loop-at.invariant config start records has) (c.verdict.ensures config start records has))

pub returns : goal.returns
returns c = λ config start records has.
    let all : c.loop-at.at ≡ c.args.channels = search rules in
    subst (λ n. AreVerdicts config start c.args.end records c.args.first n c.loop-at.verdicts.items) all (c.loop-at.invariant config start records has)
