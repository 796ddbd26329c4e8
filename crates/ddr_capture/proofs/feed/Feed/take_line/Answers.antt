use Rattle.ddr_capture.proofs.FeedLemmas.{line_first}
use Rattle.ddr_capture.proofs.feed.Feed.take_line.Goals as goal

pub returns-clause-taken : goal.returns-clause-taken
returns-clause-taken c = line_first c.args.self.now.buffer.items c.args.self.now.from c.args.place c.requires.first c.requires.within
