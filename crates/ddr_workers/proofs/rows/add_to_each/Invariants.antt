use Rattle.std.proofs.Common.{◌≡◌, ◌+◌, ◌++◌, length, map, take, drop, vec_capacity}
use Rattle.ddr_workers.specs.Lanes.{lists, each_with}
use Rattle.ddr_workers.proofs.rows.add_to_each.Given as goal

abbrev pub invariant-loop-place : goal.invariant-loop-place
invariant-loop-place g l = record {
  left : l.place + length l.items.items ≡ length l.initial.items.items;
  rows_are : length l.rows.items ≡ length l.initial.items.items;
  rest : take l.place (lists l.rows.items) ++ each_with (drop l.place (lists l.rows.items)) l.items.items ≡ each_with (lists l.initial.rows.items) l.initial.items.items;
  room : map vec_capacity l.rows.items ≡ map vec_capacity l.initial.rows.items;
  still : drop l.place l.rows.items ≡ drop l.place l.initial.rows.items;
}
