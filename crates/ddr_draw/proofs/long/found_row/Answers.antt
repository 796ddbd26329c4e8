use Rattle.std.proofs.Common.{refl}
use Rattle.ddr_capture.specs.declared.feed.Found.TheVariants as found
use Rattle.ddr_draw.proofs.LongLemmas.{row_missing}
use Rattle.ddr_draw.proofs.long.found_row.Goals as goal

pub returns-in-Line-clause-said : goal.returns-in-Line-clause-said
returns-in-Line-clause-said c = λ so_far a b d stands is.
    c.text_row.ensures.said so_far a b d found.Line c.args.text.now stands (rw c.in-Line.is at is) (λ e. cc) c.without_return.ensures

pub returns-in-Last-clause-said : goal.returns-in-Last-clause-said
returns-in-Last-clause-said c = λ so_far a b d stands is.
    c.text_row-in-Last.ensures.said so_far a b d found.Last c.args.text.now stands (rw c.in-Last.is at is) (λ e. cc) refl

pub returns-in-End-clause-said : goal.returns-in-End-clause-said
returns-in-End-clause-said c = λ so_far a b d stands is. row_missing c.args.line so_far c.args.text.now a b d stands (rw c.in-End.is at is)
