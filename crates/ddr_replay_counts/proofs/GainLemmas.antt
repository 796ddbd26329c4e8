-- Of what a round tells, the commands that pass a test.
use Rattle.std.proofs.Common.{◌≡◌, ◌<◌, ◌+◌, ℕ, List, [], ◌∷◌, ◌++◌, IfSome, is_some, arith}
use Rattle.ddr_trace.specs.Commands.{is_column}
use Rattle.ddr_statistics.specs.Visits.{finding}
use Rattle.ddr_world.specs.Promise.{trace_at}
use Rattle.ddr_world.specs.State.{State}
use Rattle.ddr_rounds.specs.declared.told.Told.{Told}
use Rattle.ddr_rounds.specs.declared.told.Told.TheVariants as tell
use Rattle.ddr_replay_counts.proofs.HistoryLemmas.{Test}
use Rattle.ddr_replay_counts.proofs.SumLemmas.{counted_if}

abbrev pub gain : Test → State → Told → ℕ
gain test s (tell.Issued c i) = counted_if (test i.entry.command (finding (trace_at s c) i.entry.command))
gain test s _ = 0

abbrev pub gains : Test → State → List Told → ℕ
gains test s [] = 0
gains test s (x ∷ more) = gain test s x + gains test s more

pub gains_both : (test : Test) (s : State) (xs ys : List Told) → gains test s (xs ++ ys) ≡ gains test s xs + gains test s ys
gains_both test s [] ys = omega arith
gains_both test s (x ∷ xs) ys = omega (arith, gains_both test s xs ys)

-- a read or a write is told with the request that it serves, of one of so many ports, and another command with none
abbrev pub IsToldOf : ℕ → Told → Type 0
IsToldOf ports (tell.Issued c i) = (is_some i.served ≡ is_column i.entry.command) × IfSome i.served (λ v. v.port < ports)
IsToldOf ports _ = Unit {0}
