use Rattle.ddr_arbiter.specs.Choice.{is_something, row_choice_at}
use Rattle.ddr_arbiter.specs.Known.{AreDone}
use Rattle.ddr_arbiter.specs.CandidateSet.{is_candidate, places_of}
use Rattle.ddr_arbiter.proofs.PlaceLemmas.{NoneAmong}
use Rattle.ddr_arbiter.proofs.rows.row_choice.Given as goal

abbrev pub invariant-loop-place : goal.invariant-loop-place
invariant-loop-place l = record {
  none : NoneAmong (is_candidate l.candidates l.pending.waiting)
      (λ place. is_something (row_choice_at l.legality.bus l.pending.waiting (places_of l.candidates l.pending.waiting) place)) l.place;
  done : AreDone l.legality.bus l.pending.waiting (places_of l.candidates l.pending.waiting) l.done;
}
