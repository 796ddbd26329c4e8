use Rattle.std.proofs.Common.{◌≡◌, ◌++◌, map}
use Rattle.std.specs.Vec.Iter.{into_iter_items}
use Rattle.ddr_world.specs.Close.{kept_trace}
use Rattle.ddr_world.proofs.world.traces_of.Given as goal

abbrev pub invariant-loop-side : goal.invariant-loop-side
invariant-loop-side l = record {
  items : l.yielded ++ into_iter_items l.side-iterator ≡ l.fn.channels.items;
  traces : l.traces.items ≡ map kept_trace l.yielded;
}
