use Rattle.std.proofs.Common.{◌≡◌}
use Rattle.std.specs.Prelude.{flat_map}
use Rattle.std.specs.List.{range_with_len}
use Rattle.ddr_explain.specs.AllFaults.{faults_at}
use Rattle.ddr_explain.proofs.faults.place_faults.Given as goal

abbrev pub invariant-loop-place : goal.invariant-loop-place
invariant-loop-place l = l.faults.items ≡ flat_map (faults_at l.config l.start l.end l.entries) (range_with_len 0 l.place)
