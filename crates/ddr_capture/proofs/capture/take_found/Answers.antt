use Rattle.std.proofs.Common.{refl}
use Rattle.ddr_capture.proofs.LineLemmas.{stands_last}
use Rattle.ddr_capture.specs.declared.feed.Found.TheVariants as found
use Rattle.ddr_capture.proofs.capture.take_found.Goals as goal

pub returns-in-Line-clause-said : goal.returns-in-Line-clause-said
returns-in-Line-clause-said c = λ config start read a b d same has so_far is.
    c.take_text.ensures.said config start read a b d found.Line c.args.line.now same has so_far (rw c.in-Line.is at is) (λ e. cc) c.without_return.ensures

pub returns-in-Last-clause-said : goal.returns-in-Last-clause-said
returns-in-Last-clause-said c = λ config start read a b d same has so_far is.
    c.take_text-in-Last.ensures.said config start read a b d found.Last c.args.line.now same has so_far (rw c.in-Last.is at is) (λ e. cc) refl

pub returns-in-End-clause-said : goal.returns-in-End-clause-said
returns-in-End-clause-said c = λ config start read a b d same has so_far is.
    (has, stands_last c.args.reading.now.form config start c.args.count read a b d c.args.line.now so_far (rw c.in-End.is at is))
