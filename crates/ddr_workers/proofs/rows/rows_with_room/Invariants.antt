use Rattle.std.proofs.Common.{◌≡◌, [], map, replicate, vec_capacity, vec_len}
use Rattle.ddr_workers.specs.Lanes.{lists}
use Rattle.ddr_workers.proofs.rows.rows_with_room.Given as goal

abbrev pub invariant-loop : goal.invariant-loop
invariant-loop g l = record {
  empty : lists l.rows.items ≡ replicate l.counter [];
  each : map vec_capacity l.rows.items ≡ replicate l.counter l.fn.room;
  made : vec_len l.rows ≡ l.counter;
  room : vec_capacity l.rows ≡ l.fn.count;
}
