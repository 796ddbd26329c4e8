use Rattle.std.proofs.Common.{◌≡◌, ◌++◌, length, map, string_bytes}
use Rattle.std.specs.Vec.Iter.{into_iter_items, into_iter_len}
use Rattle.ddr_run.specs.Outcome.{texts_of}
use Rattle.ddr_run.proofs.outcome.replies_of.Given as goal

abbrev pub invariant-loop-port : goal.invariant-loop-port
invariant-loop-port l = record {
  can_next : (goal.iterator-loop-port).can_next l.port-iterator;
  is_finite : (goal.iterator-loop-port).is_finite l.port-iterator;
  len : into_iter_len l.port-iterator ≡ length (into_iter_items l.port-iterator);
  ends : l.ends.items ++ map (λ h. h.end) (into_iter_items l.port-iterator) ≡ map (λ h. h.end) l.fn.hosted.items;
  text : string_bytes l.text ++ texts_of (into_iter_items l.port-iterator) ≡ texts_of l.fn.hosted.items;
}
