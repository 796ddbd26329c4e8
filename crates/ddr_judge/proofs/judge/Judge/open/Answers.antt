-- One judge more.
use Rattle.std.proofs.Common.{◌+◌, ◌∙◌, ap}
use Rattle.std.proofs.lemmas.List.{length_push}
use Rattle.ddr_judge.proofs.JudgedLemmas.{heard_push, none_counted}
use Rattle.ddr_judge.proofs.judge.Judge.open.Goals as goal

pub loop-channel-preserved : goal.loop-channel-preserved
loop-channel-preserved c =
    let judges = c.loop-channel.judges.items in
    let l = c.in_ok-open.field-0 in
    rw c.in_ok-push.ensures.items (record {
      each = length_push judges l ∙ ap (λ n. n + 1) c.loop-channel.invariant.each;
      heard = heard_push judges c.args.config.now c.args.start l c.loop-channel.invariant.heard c.in_ok-open.ensures;
    })

pub returns-clause-nothing : goal.returns-clause-nothing
returns-clause-nothing c = none_counted c.loop-channel.judges.items c.args.config.now c.args.start c.loop-channel.invariant.heard
