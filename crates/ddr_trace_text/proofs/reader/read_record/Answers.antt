use Rattle.std.proofs.Common.{sym}
use Rattle.ddr_trace_text.proofs.ReadLemmas.{entries_missing, entry_wrong}
use Rattle.ddr_trace_text.proofs.reader.read_record.Goals as goal

pub returns-then-not-branch-clause-fault : goal.returns-then-not-branch-clause-fault
returns-then-not-branch-clause-fault g c = λ n rows so_far left.
    sym (entries_missing c.args.line so_far rows (rw c.if-not-branch.true at (c.in_ok-next.ensures.takes n rows left)))

pub returns-in-Some-clause-said : goal.returns-in-Some-clause-said
returns-in-Some-clause-said g c = λ n rows left.
    let took = rw c.if-not-branch.false at (c.in_ok-next.ensures.takes n rows left) in
    (_, took.0, took.1, sym c.in-Some.ensures, took.2)

pub returns-in-None-clause-fault : goal.returns-in-None-clause-fault
returns-in-None-clause-fault g c = λ n rows so_far left.
    let took = rw c.if-not-branch.false at (c.in_ok-next.ensures.takes n rows left) in
    sym (entry_wrong c.args.line so_far rows took.0 _ took.1 (sym c.in-None.ensures))
