use Rattle.std.proofs.Common.{◌≡◌, ◌+◌, None, length}
use Rattle.ddr_draw.specs.Held.{wait_from}
use Rattle.ddr_draw.proofs.pairs.wait_from.Given as goal

-- the rest is still to be asked
abbrev pub invariant-entries : goal.invariant-entries
invariant-entries l = record {
  asked : wait_from l.timing l.entry l.first None l.recent ≡ wait_from l.timing l.entry l.place l.best l.rest;
  at : l.place + length l.rest ≡ l.first + length l.recent;
}

abbrev pub decreases-entries : goal.decreases-entries
decreases-entries l = length l.rest
