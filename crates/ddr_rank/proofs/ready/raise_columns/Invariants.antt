-- The groups so far are raised, and those behind are as they were.
use Rattle.std.proofs.Common.{◌≡◌, ◌<◌, ◌≤◌, ℕ, length, slice_index_or}
use Rattle.ddr_rank.specs.Parts.{by_group, columns_free, columns_raised}
use Rattle.ddr_rank.proofs.ready.raise_columns.Given as goal

abbrev pub invariant-loop-number : goal.invariant-loop-number
invariant-loop-number l = record {
  size : length l.columns ≡ length l.initial.columns;
  done : (k : ℕ) → k < l.number → slice_index_or l.columns k columns_free ≡ columns_raised (by_group l.group l.own l.others k) (slice_index_or l.initial.columns k columns_free);
  left : (k : ℕ) → l.number ≤ k → slice_index_or l.columns k columns_free ≡ slice_index_or l.initial.columns k columns_free;
}
