use Rattle.std.proofs.Common.{◌≡◌, ℕ, ◌*◌, ◌<◌, ◌≤◌, get_or}
use Rattle.ddr_row_array.specs.Merge.{byte_of}
use Rattle.ddr_row_array.proofs.merge.merge_words.Given as goal

abbrev pub invariant-loop-word : goal.invariant-loop-word
invariant-loop-word l = record {
  done : (k : ℕ) → k < l.word * 8 → get_or l.burst k 0 ≡ byte_of l.mask l.line l.initial.burst k;
  rest : (k : ℕ) → l.word * 8 ≤ k → get_or l.burst k 0 ≡ get_or l.initial.burst k 0;
}
