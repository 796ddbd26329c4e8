use Rattle.std.proofs.Common.{◌+◌, ◌<◌, length, length-drop, arith}
use Rattle.ddr_capture.specs.Feed.{left, waiting}
use Rattle.ddr_capture.specs.declared.feed.TheConstants.{LONGEST_LINE}
use Rattle.ddr_capture.proofs.FeedLemmas.{too_long}
use Rattle.ddr_capture.proofs.feed.Feed.next.Goals as goal

pub returns-then-len-self-clause-long : goal.returns-then-len-self-clause-long
returns-then-len-self-clause-long g c =
    let self = c.more.self in
    let long : LONGEST_LINE + 1 < length (waiting self) = omega (arith, length-drop self.from self.buffer.items, c.len.ensures, c.if-len-self.true) in
    λ is. too_long (left c.args.self.now (g.R.Read.remaining c.args.reader.now)) (waiting self) (g.R.Read.remaining c.more.reader) c.more.invariant.kept (rw c.waiting.ensures at c.in_default.ensures.none) long
