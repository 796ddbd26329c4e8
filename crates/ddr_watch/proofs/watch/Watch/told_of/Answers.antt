-- The lowest rule, and what was found.
use Rattle.ddr_watch.proofs.CountedLemmas.{lowest_of, told_some}
use Rattle.ddr_watch.proofs.watch.Watch.told_of.Goals as goal

pub returns-in-Some : goal.returns-in-Some
returns-in-Some c = λ config start history counted.
    told_some c.args.self.now config start history c.args.entry.now counted _
    (lowest_of c.args.self.now config start history c.args.entry.now counted _ c.in-Some.ensures.lowest) c.count.ensures c.find.ensures
