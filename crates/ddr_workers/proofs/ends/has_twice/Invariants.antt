use Rattle.std.proofs.Common.{◌≡◌, drop}
use Rattle.ddr_workers.specs.Closing.{has_twice}
use Rattle.ddr_workers.proofs.ends.has_twice.Given as goal

-- no number before this place stands again
abbrev pub invariant-loop-place : goal.invariant-loop-place
invariant-loop-place g l = has_twice g.E.Numbered.number_of (drop l.place l.ends) ≡ has_twice g.E.Numbered.number_of l.ends
