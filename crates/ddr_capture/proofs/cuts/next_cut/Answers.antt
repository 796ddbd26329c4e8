use Rattle.std.proofs.Common.{◌+◌, ◌-◌, length, take, drop}
use Rattle.ddr_capture.proofs.CutLemmas.{cut_first, cut_none, cut_some}
use Rattle.ddr_capture.proofs.cuts.next_cut.Goals as goal

pub returns-in-Some-clause-some : goal.returns-in-Some-clause-some
returns-in-Some-clause-some c =
    let from = c.in-Some.end + 1 in (
      cut_first c.args.text.now c.in-Some.end c.in-Some.ensures.place c.in-Some.ensures.within,
      cut_some (take (length c.args.text.now - from) (drop from c.args.text.now)),
    )

pub returns-in-None-clause-none : goal.returns-in-None-clause-none
returns-in-None-clause-none c = cut_none c.args.text.now c.in-None.ensures.none
