use Rattle.std.proofs.Common.{◌≡◌, ℕ, ◌++◌, length, map, Some, slice_get, vec_capacity}
use Rattle.std.specs.Vec.Iter.{into_iter_items, into_iter_len}
use Rattle.ddr_workers.specs.Ended.{IsWorkerEnded}
use Rattle.ddr_workers.specs.Gathered.{with_all}
use Rattle.ddr_workers.specs.Worker.{WorkerEnded}
use Rattle.ddr_workers.proofs.closing.gather_workers.Given as goal

abbrev pub invariant-loop-end : goal.invariant-loop-end
invariant-loop-end l = record {
  can_next : goal.iterator-loop-end.can_next l.end-iterator;
  is_finite : goal.iterator-loop-end.is_finite l.end-iterator;
  items : l.yielded ++ into_iter_items l.end-iterator ≡ l.fn.ends.items;
  len : into_iter_len l.end-iterator ≡ length (into_iter_items l.end-iterator);
  sides : l.sides ≡ with_all (λ (w : WorkerEnded). w.completions) (λ w. w.requests) l.fn.sides l.yielded;
  traces : l.traces.items ≡ map (λ (w : WorkerEnded). w.kept) l.yielded;
  faults : l.faults.items ≡ map (λ (w : WorkerEnded). w.fault) l.yielded;
  room : vec_capacity l.traces ≡ length l.fn.ends.items;
  fault_room : vec_capacity l.faults ≡ length l.fn.ends.items;
  ended : (k : ℕ) (w : WorkerEnded) → slice_get l.yielded k ≡ Some w → IsWorkerEnded w;
}
