use Rattle.std.proofs.Common.{◌≡◌, ◌≤◌, ◌++◌, length, drop}
use Rattle.std.specs.Fmt.{decimal}
use Rattle.ddr_sim.proofs.line.write_digits.Given as goal

abbrev pub invariant-tens : goal.invariant-tens
invariant-tens l = record {
  within : l.place ≤ 20;
  whole : length l.digits ≡ 20;
  room : length (decimal l.rest) ≤ l.place;
  split : decimal l.rest ++ drop l.place l.digits ≡ decimal l.number;
}

abbrev pub decreases-tens : goal.decreases-tens
decreases-tens l = l.rest
