use Rattle.std.proofs.Common.{Err, ap, sym}
use Rattle.ddr_capture.specs.Feed.{left}
use Rattle.ddr_draw.proofs.LongLemmas.{row_refused}
use Rattle.ddr_draw.proofs.long.next_row.Goals as goal

pub returns-in-Ok-clause-said : goal.returns-in-Ok-clause-said
returns-in-Ok-clause-said g c = λ so_far a stands.
    c.found_row.ensures.said so_far a (left c.args.feed.now (g.R.Read.remaining c.args.reader.now)) (left c.next.new.self (g.R.Read.remaining c.next.new.reader)) stands (rw (sym c.line.ensures) at c.in-Ok.ensures.found)

pub returns-in-Err-clause-said : goal.returns-in-Err-clause-said
returns-in-Err-clause-said g c = λ so_far a stands.
    rw c.row_fault.ensures (row_refused c.args.line so_far a (left c.args.feed.now (g.R.Read.remaining c.args.reader.now)) c.in-Err.refusal stands (λ e. c.in-Err.ensures.long (ap Err e)))
