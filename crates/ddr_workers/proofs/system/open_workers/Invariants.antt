use Rattle.std.proofs.Common.{◌≡◌, ◌+◌, length}
use Rattle.ddr_workers.specs.Lanes.{lists, AreFrom}
use Rattle.ddr_workers.specs.Open.{IsWorkerRow, IsWorkerTake, IsNewWorker, KeepTraces}
use Rattle.ddr_workers.proofs.LaneLemmas.{Completes}
use Rattle.ddr_workers.proofs.system.open_workers.Given as goal

abbrev pub invariant-loop-number : goal.invariant-loop-number
invariant-loop-number l = record {
  rows_left : l.number + length l.rows.items ≡ l.config.geometry.channels;
  takes_left : l.number + length l.takes.items ≡ l.config.geometry.channels;
  row : AreFrom (IsWorkerRow l.config.geometry l.config.limits.ports) l.number (lists l.rows.items);
  take : AreFrom (IsWorkerTake l.config.geometry l.config.limits.ports) l.number l.takes.items;
  made : Completes (IsNewWorker l.config l.first l.id) l.number (lists l.rows.items) l.takes.items l.workers.items (lists l.initial.rows.items) l.initial.takes.items;
  keep : KeepTraces l.traces l.workers.items;
}
