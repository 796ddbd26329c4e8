use Rattle.std.proofs.Common.{Err, ap, sym}
use Rattle.ddr_capture.specs.Feed.{left}
use Rattle.ddr_capture.proofs.LineLemmas.{refusal_next}
use Rattle.ddr_capture.proofs.capture.take_next.Goals as goal

pub returns-in-Ok-clause-said : goal.returns-in-Ok-clause-said
returns-in-Ok-clause-said g c = λ config start read a same has so_far.
    c.take_found.ensures.said config start read a (left c.args.feed.now (g.R.Read.remaining c.args.reader.now)) (left c.next.new.self (g.R.Read.remaining c.next.new.reader)) same has so_far (rw (sym c.line.ensures) at c.in-Ok.ensures.found)

pub returns-in-Err-clause-said : goal.returns-in-Err-clause-said
returns-in-Err-clause-said g c = λ config start read a same has so_far.
    rw c.line_fault.ensures (refusal_next c.args.reading.now.form config start c.args.count read a (left c.args.feed.now (g.R.Read.remaining c.args.reader.now)) c.in-Err.refusal so_far (λ e. c.in-Err.ensures.long (ap Err e)))
