use Rattle.std.proofs.Common.{sym}
use Rattle.ddr_trace_text.proofs.ReadLemmas.{header_missing, header_taken, header_wrong}
use Rattle.ddr_trace_text.proofs.reader.read_header.Goals as goal

pub returns-then-not-branch-clause-fault : goal.returns-then-not-branch-clause-fault
returns-then-not-branch-clause-fault g c = λ n rows left.
    sym (header_missing rows (rw c.if-not-branch.true at (c.in_ok-next.ensures.takes n rows left)))

pub returns-then-not-is_header-clause-fault : goal.returns-then-not-is_header-clause-fault
returns-then-not-is_header-clause-fault g c = λ n rows left.
    let took = rw c.if-not-branch.false at (c.in_ok-next.ensures.takes n rows left) in
    sym (header_wrong rows took.0 _ took.1 (sym c.if-not-is_header.ensures))

pub returns-clause-header : goal.returns-clause-header
returns-clause-header g c = λ n rows left.
    let took = rw c.if-not-branch.false at (c.in_ok-next.ensures.takes n rows left) in
    (took.0, header_taken rows took.0 _ took.1 (sym c.if-not-is_header.ensures), took.2)
