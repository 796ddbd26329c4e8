use Rattle.std.proofs.Common.{◌≡◌, length}
use Rattle.ddr_trace.specs.declared.rule.TheConstants.Rule.{ALL}
use Rattle.ddr_draw.specs.Held.{wait_at}
use Rattle.ddr_draw.proofs.pairs.wait_at.Given as goal

-- the other rules are still to be asked
abbrev pub invariant-rules : goal.invariant-rules
invariant-rules l = wait_at l.timing l.entry l.place l.earlier l.between l.fn.found ALL ≡ wait_at l.timing l.entry l.place l.earlier l.between l.best l.rest

abbrev pub decreases-rules : goal.decreases-rules
decreases-rules l = length l.rest
