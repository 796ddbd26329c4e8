-- One command more.
use Rattle.std.proofs.Common.{refl}
use Rattle.ddr_watch.proofs.KeptLemmas.{last_more}
use Rattle.ddr_watch.proofs.recent.Recent.push.Goals as goal

pub returns-clause-last : goal.returns-clause-last
returns-clause-last c = λ history last.
    last_more c.shorten.new.self _ history c.args.entry.now (c.shorten.ensures.last history last) refl c.push_reserved.ensures.items
