use Rattle.std.proofs.Common.{◌≡◌, ◌++◌, map, length}
use Rattle.std.specs.Vec.Iter.{into_iter_items, into_iter_len}
use Rattle.crossbeam_queue.specs.Passes.{view, IsPassOf}
use Rattle.ddr_workers.specs.Law.{with_all_back}
use Rattle.ddr_workers.specs.Sides.{PutSide}
use Rattle.ddr_workers.proofs.lane.joining.give_back.Given as goal

abbrev pub invariant-loop-put : goal.invariant-loop-put
invariant-loop-put g l = record {
  can_next : (goal.iterator-loop-put g).can_next l.put-iterator;
  is_finite : (goal.iterator-loop-put g).is_finite l.put-iterator;
  items : l.yielded ++ into_iter_items l.put-iterator ≡ l.fn.puts.items;
  len : into_iter_len l.put-iterator ≡ length (into_iter_items l.put-iterator);
  queue : IsPassOf l.queue l.pass;
  table : l.pass.table_id ≡ l.fn.pass.table_id;
  knows : view l.pass ≡ with_all_back (view l.fn.pass) (map (λ (s : PutSide _ _). s.put) l.yielded);
}
