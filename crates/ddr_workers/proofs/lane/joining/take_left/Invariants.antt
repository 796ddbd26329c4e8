use Rattle.std.proofs.Common.{◌≡◌, ◌≤◌, vec_capacity}
use Rattle.crossbeam_queue.specs.Passes.{view, IsPassOf, ruled_capacity}
use Rattle.ddr_workers.specs.Law.{with_all_taken}
use Rattle.ddr_workers.proofs.JoinLemmas.{left_of}
use Rattle.ddr_workers.proofs.lane.joining.take_left.Given as goal

abbrev pub invariant-loop-item : goal.invariant-loop-item
invariant-loop-item g l = record {
  queue : IsPassOf l.queue l.pass;
  capacity : vec_capacity l.spare ≡ ruled_capacity l.queue;
  knows : view l.pass ≡ with_all_taken (view l.fn.pass) l.spare.items;
  fits : left_of (view l.fn.pass) ≤ ruled_capacity l.queue;
}

abbrev pub decreases-loop-item : goal.decreases-loop-item
decreases-loop-item g l = left_of (view l.pass)
