use Rattle.std.proofs.Common.{◌≡◌, ℕ, ◌++◌, length, map, Some, slice_get, vec_capacity}
use Rattle.std.specs.Vec.Iter.{into_iter_items, into_iter_len}
use Rattle.ddr_workers.specs.Ended.{IsEnded}
use Rattle.ddr_workers.specs.Gathered.{with_all}
use Rattle.ddr_workers.specs.Port.{PortEnded}
use Rattle.ddr_workers.proofs.closing.gather_ports.Given as goal

abbrev pub invariant-loop-end : goal.invariant-loop-end
invariant-loop-end l = record {
  can_next : goal.iterator-loop-end.can_next l.end-iterator;
  is_finite : goal.iterator-loop-end.is_finite l.end-iterator;
  items : l.yielded ++ into_iter_items l.end-iterator ≡ l.fn.ends.items;
  len : into_iter_len l.end-iterator ≡ length (into_iter_items l.end-iterator);
  sides : l.sides ≡ with_all (λ (e : PortEnded). e.requests) (λ e. e.completions) l.fn.sides l.yielded;
  counts : l.counts.items ≡ map (λ (e : PortEnded). e.taken) l.yielded;
  room : vec_capacity l.counts ≡ length l.fn.ends.items;
  ended : (k : ℕ) (e : PortEnded) → slice_get l.yielded k ≡ Some e → IsEnded e;
}
