use Rattle.std.proofs.Common.{Err, ap, sym}
use Rattle.ddr_capture.specs.Feed.{left}
use Rattle.ddr_draw.proofs.LongLemmas.{header_refused}
use Rattle.ddr_draw.proofs.long.read_header.Goals as goal

pub returns-in-Ok-clause-said : goal.returns-in-Ok-clause-said
returns-in-Ok-clause-said g c =
    c.found_header.ensures.said (left c.args.feed.now (g.R.Read.remaining c.args.reader.now)) (left c.next.new.self (g.R.Read.remaining c.next.new.reader)) (rw (sym c.line.ensures) at c.in-Ok.ensures.found)

pub returns-in-Err-clause-said : goal.returns-in-Err-clause-said
returns-in-Err-clause-said g c =
    rw c.header_fault.ensures (header_refused (left c.args.feed.now (g.R.Read.remaining c.args.reader.now)) c.in-Err.refusal (λ e. c.in-Err.ensures.long (ap Err e)))
