use Rattle.std.proofs.Common.{refl}
use Rattle.ddr_capture.specs.declared.feed.Found.TheVariants as found
use Rattle.ddr_draw.proofs.LongLemmas.{header_missing}
use Rattle.ddr_draw.proofs.long.found_header.Goals as goal

pub returns-in-Line-clause-said : goal.returns-in-Line-clause-said
returns-in-Line-clause-said c = λ a b is.
    c.text_header.ensures.said a b found.Line c.args.line.now (rw c.in-Line.is at is) (λ e. cc) c.without_return.ensures

pub returns-in-Last-clause-said : goal.returns-in-Last-clause-said
returns-in-Last-clause-said c = λ a b is.
    c.text_header-in-Last.ensures.said a b found.Last c.args.line.now (rw c.in-Last.is at is) (λ e. cc) refl

pub returns-in-End-clause-said : goal.returns-in-End-clause-said
returns-in-End-clause-said c = λ a b is. header_missing c.args.line.now a b (rw c.in-End.is at is)
