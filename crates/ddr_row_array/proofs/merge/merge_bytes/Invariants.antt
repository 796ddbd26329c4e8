use Rattle.std.proofs.Common.{◌≡◌, ℕ, ◌+◌, ◌<◌, ◌≤◌, get_or}
use Rattle.ddr_row_array.specs.Merge.{byte_of}
use Rattle.ddr_row_array.proofs.merge.merge_bytes.Given as goal

abbrev pub invariant-loop-i : goal.invariant-loop-i
invariant-loop-i l = record {
  before : (k : ℕ) → k < l.start → get_or l.burst k 0 ≡ get_or l.initial.burst k 0;
  done : (j : ℕ) → j < l.i → get_or l.burst (l.start + j) 0 ≡ byte_of l.mask l.line l.initial.burst (l.start + j);
  rest : (k : ℕ) → l.start + l.i ≤ k → get_or l.burst k 0 ≡ get_or l.initial.burst k 0;
}
