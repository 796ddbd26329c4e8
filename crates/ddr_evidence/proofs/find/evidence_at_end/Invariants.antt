use Rattle.std.proofs.Common.{◌≡◌, ℕ, ◌+◌, ◌*◌, ◌<◌, nat_lt, false}
use Rattle.ddr_trace.specs.declared.command.Command.TheVariants.{Refresh}
use Rattle.ddr_trace.specs.Rules.{refresh_count}
use Rattle.ddr_evidence.proofs.find.evidence_at_end.Given as goal

abbrev pub invariant-loop-rank : goal.invariant-loop-rank
invariant-loop-rank l =
    (other : ℕ) → other < l.rank → nat_lt (l.start + (refresh_count l.entries (Refresh other) + 9) * l.config.timing.refi) l.end ≡ false
