use Rattle.std.proofs.Common.{◌≡◌, ℕ, ◌<◌, false}
use Rattle.ddr_trace.specs.Banks.{bank_behind}
use Rattle.ddr_evidence.specs.Evidence.{bank_test}
use Rattle.ddr_evidence.specs.Places.{bank_at}
use Rattle.ddr_evidence.proofs.state.first_bank.Given as goal

abbrev pub invariant-loop-number : goal.invariant-loop-number
invariant-loop-number l =
    (other : ℕ) → other < l.number → bank_test l.test l.config.timing l.cycle (bank_behind (bank_at l.rank other) l.history) ≡ false
