use Rattle.std.proofs.Common.{◌≡◌, ◌+◌, [], All, length}
use Rattle.ddr_workers.specs.Lanes.{lists, AreFrom}
use Rattle.ddr_workers.specs.Open.{IsPortRow, IsPortOf}
use Rattle.ddr_workers.proofs.LaneLemmas.{Completes}
use Rattle.ddr_workers.proofs.system.open_ports.Given as goal

abbrev pub invariant-loop-number : goal.invariant-loop-number
invariant-loop-number l = record {
  rows_left : l.number + length l.rows.items ≡ l.config.limits.ports;
  takes_left : l.number + length l.takes.items ≡ l.config.limits.ports;
  row : AreFrom (IsPortRow l.config.geometry) l.number (lists l.rows.items);
  take : All (λ take. take.took ≡ []) l.takes.items;
  made : Completes (IsPortOf l.config l.id) l.number (lists l.rows.items) l.takes.items l.ports.items (lists l.initial.rows.items) l.initial.takes.items;
}
