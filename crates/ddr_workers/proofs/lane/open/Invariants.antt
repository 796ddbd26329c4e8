use Rattle.std.proofs.Common.{◌≡◌, ℕ, Some, slice_get, vec_len, vec_capacity}
use Rattle.std.specs.Arc.{arc_value}
use Rattle.crossbeam_queue.specs.Passes.{view, IsPassOf, ruled_capacity}
use Rattle.ddr_workers.specs.declared.law.View.TheVariants.{Take}
use Rattle.ddr_workers.specs.Law.{new_taking}
use Rattle.ddr_workers.specs.Sides.{PutSide, queue_id, new_put}
use Rattle.ddr_workers.proofs.lane.open.Given as goal

abbrev pub ghosts-set_purpose : goal.ghosts-set_purpose
ghosts-set_purpose g a = record { purpose = Some a.purpose; sides = a.sides }

abbrev pub invariant-loop-source : goal.invariant-loop-source
invariant-loop-source g l = let lane = arc_value l.lane in record {
  queue : IsPassOf lane.queue l.pass;
  capacity : ruled_capacity lane.queue ≡ l.fn.capacity;
  purpose : lane.purpose ≡ l.fn.purpose;
  knows : view l.pass ≡ Take (record (new_taking lane.purpose l.fn.count) { count = l.source });
  made : vec_len l.puts ≡ l.source;
  room : vec_capacity l.puts ≡ l.fn.count;
  sides : (p : ℕ) (s : PutSide _ _) → slice_get l.puts.items p ≡ Some s → s ≡ new_put (queue_id l.pass.table_id l.fn.capacity l.fn.count lane.purpose) p;
}
