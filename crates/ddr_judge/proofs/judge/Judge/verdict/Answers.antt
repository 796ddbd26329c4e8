-- The verdict of the channel's judge.
use Rattle.std.proofs.Common.{◌∙◌, Some, ap, sym, arith}
use Rattle.std.proofs.lemmas.Option.{slice_get-get_or}
use Rattle.ddr_judge.specs.Records.{of_channel}
use Rattle.ddr_judge.proofs.RecordLemmas.{channel_below}
use Rattle.ddr_judge.proofs.judge.Judge.verdict.Goals as goal

pub returns : goal.returns
returns c = λ config start records judged.
    let l = c.index.result.now in
    let there = slice_get-get_or c.args.self.now.judges.items c.args.channel l c.requires.there ∙ ap (λ k. Some k) (sym c.index.ensures) in
    c.verdict.ensures config start (of_channel c.args.channel records) (judged.each c.args.channel l there)
    (channel_below start c.args.end c.args.channel records (omega (arith, judged.end, c.requires.behind)))
