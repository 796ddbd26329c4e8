use Rattle.std.proofs.Common.{Err, ap}
use Rattle.ddr_capture.specs.Feed.{left, line_in}
use Rattle.ddr_draw.proofs.LongLemmas.{end_refused}
use Rattle.ddr_draw.proofs.long.read_nothing.Goals as goal

pub returns-in-Ok-clause-said : goal.returns-in-Ok-clause-said
returns-in-Ok-clause-said g c = λ trace a ends.
    c.found_nothing.ensures.said trace a (left c.args.feed.now (g.R.Read.remaining c.args.reader.now)) (left c.next.new.self (g.R.Read.remaining c.next.new.reader)) (line_in c.next.new.self) ends c.in-Ok.ensures.found

pub returns-in-Err-clause-said : goal.returns-in-Err-clause-said
returns-in-Err-clause-said g c = λ trace a ends.
    rw c.end_fault.ensures (end_refused c.args.line trace a (left c.args.feed.now (g.R.Read.remaining c.args.reader.now)) c.in-Err.refusal ends (λ e. c.in-Err.ensures.long (ap Err e)))
