-- A command counts, or it doesn't.
use Rattle.ddr_watch.proofs.CountedLemmas.{counted_more, counted_same, is_counted_by}
use Rattle.ddr_watch.proofs.watch.Watch.judge.Goals as goal

pub returns-then-can_pass-clause-counted : goal.returns-then-can_pass-clause-counted
returns-then-can_pass-clause-counted c = λ config start history counted.
    counted_more c.args.self.now config start history c.args.entry.now counted c.pass.new.self c.push.new.self
    (is_counted_by c.args.self.now config start history c.args.entry.now counted _ c.if-can_pass.ensures.told) c.pass.ensures.config c.pass.ensures.start c.pass.ensures.passed c.push.ensures.last

pub returns-else-can_pass-clause-counted : goal.returns-else-can_pass-clause-counted
returns-else-can_pass-clause-counted c = λ config start history counted.
    counted_same c.args.self.now config start history c.args.entry.now counted (is_counted_by c.args.self.now config start history c.args.entry.now counted _ c.if-can_pass.ensures.told)
