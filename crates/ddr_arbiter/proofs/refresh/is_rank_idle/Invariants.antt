use Rattle.std.proofs.Common.{◌≡◌, false, eqb, take}
use Rattle.std.specs.List.{list_any}
use Rattle.ddr_arbiter.proofs.refresh.is_rank_idle.Given as goal

abbrev pub invariant-loop-place : goal.invariant-loop-place
invariant-loop-place l = list_any (λ w. eqb w.request.place.rank l.rank) (take l.place l.pending.waiting) ≡ false
