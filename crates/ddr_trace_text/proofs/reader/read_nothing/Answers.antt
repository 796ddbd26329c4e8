use Rattle.std.proofs.Common.{sym}
use Rattle.ddr_trace_text.proofs.ReadLemmas.{record_behind, wrong_behind}
use Rattle.ddr_trace_text.proofs.reader.read_nothing.Goals as goal

pub returns-then-not-branch-clause-nothing : goal.returns-then-not-branch-clause-nothing
returns-then-not-branch-clause-nothing g c = λ n rows left. rw c.if-not-branch.true at (c.in_ok-next.ensures.takes n rows left)

pub returns-in-Some-clause-fault : goal.returns-in-Some-clause-fault
returns-in-Some-clause-fault g c = λ n rows trace left.
    let took = rw c.if-not-branch.false at (c.in_ok-next.ensures.takes n rows left) in
    sym (record_behind c.args.line trace rows took.0 _ _ took.1 (sym c.in-Some.ensures))

pub returns-in-None-clause-fault : goal.returns-in-None-clause-fault
returns-in-None-clause-fault g c = λ n rows trace left.
    let took = rw c.if-not-branch.false at (c.in_ok-next.ensures.takes n rows left) in
    sym (wrong_behind c.args.line trace rows took.0 _ took.1 (sym c.in-None.ensures))
