use Rattle.std.proofs.Common.{◌≤◌, All, take}
use Rattle.ddr_old_sleep.proofs.admitted.are_admitted.Given as goal

abbrev pub invariant-loop-place : goal.invariant-loop-place
invariant-loop-place l = All (λ w. w.admitted ≤ l.now) (take l.place l.pending.waiting)
