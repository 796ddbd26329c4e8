use Rattle.ddr_arbiter.specs.Choice.{can_column}
use Rattle.ddr_arbiter.specs.Known.{AreKnown}
use Rattle.ddr_arbiter.specs.CandidateSet.{is_candidate}
use Rattle.ddr_arbiter.proofs.PlaceLemmas.{NoneAmong}
use Rattle.ddr_arbiter.proofs.columns.column_place.Given as goal

abbrev pub invariant-loop-place : goal.invariant-loop-place
invariant-loop-place l = record {
  none : NoneAmong (is_candidate l.candidates l.pending.waiting) (can_column l.legality.bus l.pending.waiting) l.place;
  known : AreKnown l.legality.bus l.candidates.kind l.banks;
}
