use Rattle.std.proofs.Common.{◌≡◌, ℕ, ◌+◌, ◌≤◌, false, length, drop}
use Rattle.std.specs.Prelude.{count_by}
use Rattle.ddr_evidence.specs.Places.{breaks_from, counts}
use Rattle.ddr_evidence.proofs.PlaceLemmas.{IsSplit}
use Rattle.ddr_evidence.proofs.pair.nearest.Given as goal

abbrev pub invariant-loop-last : goal.invariant-loop-last
invariant-loop-last l = record {
  split : IsSplit l.history l.earlier;
  few : l.between + length l.earlier ≤ length l.history;
  counted : l.between ≡ count_by (counts l.rule l.entry) (drop (length l.earlier) l.history);
  none : (place : ℕ) → length l.earlier ≤ place → breaks_from l.timing l.rule l.history l.entry place ≡ false;
}

abbrev pub decreases-loop-last : goal.decreases-loop-last
decreases-loop-last l = length l.earlier
