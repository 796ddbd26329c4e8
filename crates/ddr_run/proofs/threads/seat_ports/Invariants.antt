use Rattle.std.proofs.Common.{◌≡◌, ◌+◌, ◌++◌, length}
use Rattle.std.specs.Vec.Iter.{into_iter_items, into_iter_len}
use Rattle.ddr_run.specs.Threads.{port_seats}
use Rattle.ddr_run.proofs.threads.seat_ports.Given as goal

abbrev pub invariant-loop-port : goal.invariant-loop-port
invariant-loop-port l = record {
  can_next : (goal.iterator-loop-port).can_next l.port-iterator;
  is_finite : (goal.iterator-loop-port).is_finite l.port-iterator;
  len : into_iter_len l.port-iterator ≡ length (into_iter_items l.port-iterator);
  counted : l.number + length (into_iter_items l.port-iterator) ≡ length l.fn.ports.items;
  seats : l.seats.items ++ port_seats l.number (into_iter_items l.port-iterator) ≡ l.fn.seats.items ++ port_seats 0 l.fn.ports.items;
}
