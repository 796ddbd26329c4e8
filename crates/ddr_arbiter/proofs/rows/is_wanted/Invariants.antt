use Rattle.std.proofs.Common.{◌≡◌, ℕ, ◌<◌, Some, false}
use Rattle.ddr_hazards.specs.Banks.{in_bank}
use Rattle.ddr_arbiter.specs.CandidateSet.{wants}
use Rattle.ddr_arbiter.proofs.rows.is_wanted.Given as goal

abbrev pub invariant-loop-k : goal.invariant-loop-k
invariant-loop-k l = (j place : ℕ) → j < l.k → in_bank l.at.rank l.at.group l.at.bank j l.pending.waiting ≡ Some place → wants l.candidates l.row l.pending.waiting place ≡ false
