use Rattle.ddr_capture.proofs.FeedLemmas.{feed_at, feed_none}
use Rattle.ddr_capture.proofs.feed.feed_place.Goals as goal

pub returns-clause-place : goal.returns-clause-place
returns-clause-place c = feed_at c.args.text.now c.memchr.result c.memchr.ensures

pub returns-clause-none : goal.returns-clause-none
returns-clause-none c = feed_none c.args.text.now c.memchr.result c.memchr.ensures
