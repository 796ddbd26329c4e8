use Rattle.std.proofs.Common.{ℕ, ◌<◌, ◌≤◌}
use Rattle.ddr_hazards.specs.declared.waiting.Waiting.{Waiting}
use Rattle.ddr_arbiter.specs.Until.{AreStuckUntil, IsCandidate, IsStuckUntil}
use Rattle.ddr_arbiter.proofs.quiet.stuck_until.Given as goal

abbrev pub invariant-loop-place : goal.invariant-loop-place
invariant-loop-place l = record {
  end : l.until ≤ l.end;
  stuck : (place : ℕ) (w : Waiting) → place < l.place → IsCandidate l.candidates l.pending.waiting place w → IsStuckUntil l.until l.legality.bus l.candidates l.pending.waiting l.room w.request.place;
  asked : AreStuckUntil l.until l.legality.bus l.candidates l.pending.waiting l.room l.asked;
}
