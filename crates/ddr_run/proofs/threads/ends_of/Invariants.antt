use Rattle.std.proofs.Common.{◌≡◌, ◌++◌, length}
use Rattle.std.specs.List.{filter_map}
use Rattle.std.specs.Vec.Iter.{into_iter_items, into_iter_len}
use Rattle.ddr_run.specs.Threads.{ended_in, hosted_in}
use Rattle.ddr_run.proofs.threads.ends_of.Given as goal

abbrev pub invariant-loop-seat : goal.invariant-loop-seat
invariant-loop-seat l = record {
  can_next : (goal.iterator-loop-seat).can_next l.seat-iterator;
  is_finite : (goal.iterator-loop-seat).is_finite l.seat-iterator;
  len : into_iter_len l.seat-iterator ≡ length (into_iter_items l.seat-iterator);
  ports : l.ended.ports.items ++ filter_map hosted_in (into_iter_items l.seat-iterator) ≡ filter_map hosted_in l.fn.seats.items;
  workers : l.ended.workers.items ++ filter_map ended_in (into_iter_items l.seat-iterator) ≡ filter_map ended_in l.fn.seats.items;
}
