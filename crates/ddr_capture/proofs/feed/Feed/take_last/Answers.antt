use Rattle.std.proofs.Common.{◌<◌, ◌≡◌, length, rules}
use Rattle.ddr_capture.proofs.FeedLemmas.{line_last}
use Rattle.ddr_capture.proofs.feed.Feed.take_last.Goals as goal

pub returns-clause-taken : goal.returns-clause-taken
returns-clause-taken c =
    let some : c.args.self.now.from < length c.args.self.now.buffer.items = search rules in
    let same : c.len-self.result ≡ length c.args.self.now.buffer.items = search rules in
    rw same (line_last c.args.self.now.buffer.items c.args.self.now.from some c.requires.none)
