use Rattle.std.proofs.Common.{◌≡◌, false}
use Rattle.std.specs.List.{list_any, range_with_len}
use Rattle.ddr_arbiter.specs.CandidateSet.{is_candidate}
use Rattle.ddr_arbiter.proofs.candidates.has_any.Given as goal

abbrev pub invariant-loop-place : goal.invariant-loop-place
invariant-loop-place l = list_any (is_candidate l.candidates l.pending.waiting) (range_with_len 0 l.place) ≡ false
