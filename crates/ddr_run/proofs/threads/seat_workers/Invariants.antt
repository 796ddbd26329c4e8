use Rattle.std.proofs.Common.{◌≡◌, ◌++◌, length, map}
use Rattle.std.specs.Vec.Iter.{into_iter_items, into_iter_len}
use Rattle.ddr_run.specs.declared.threads.Seat.TheVariants as seats
use Rattle.ddr_run.proofs.threads.seat_workers.Given as goal

abbrev pub invariant-loop-worker : goal.invariant-loop-worker
invariant-loop-worker l = record {
  can_next : (goal.iterator-loop-worker).can_next l.worker-iterator;
  is_finite : (goal.iterator-loop-worker).is_finite l.worker-iterator;
  len : into_iter_len l.worker-iterator ≡ length (into_iter_items l.worker-iterator);
  seats : l.seats.items ++ map seats.Worker (into_iter_items l.worker-iterator) ≡ l.fn.seats.items ++ map seats.Worker l.fn.workers.items;
}
