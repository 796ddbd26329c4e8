use Rattle.std.proofs.Common.{◌≡◌, ◌+◌, length}
use Rattle.ddr_draw.specs.Held.{auto_place}
use Rattle.ddr_draw.proofs.starts.auto_place.Given as goal

-- the rest is still to be looked at
abbrev pub invariant-entries : goal.invariant-entries
invariant-entries l = record {
  looked : auto_place l.bank l.first l.first l.recent ≡ auto_place l.bank l.found l.place l.rest;
  at : l.place + length l.rest ≡ l.first + length l.recent;
}

abbrev pub decreases-entries : goal.decreases-entries
decreases-entries l = length l.rest
