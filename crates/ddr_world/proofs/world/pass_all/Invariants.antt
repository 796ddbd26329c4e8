use Rattle.std.proofs.Common.{◌≡◌, map}
use Rattle.ddr_world.specs.Kept.{opened_with, side_of}
use Rattle.ddr_world.proofs.QuietLemmas.{first_passed}
use Rattle.ddr_world.proofs.world.pass_all.Given as goal

abbrev pub invariant-loop-side : goal.invariant-loop-side
invariant-loop-side l = record {
  passed : map side_of l.channels ≡ first_passed l.count l.side-index (map side_of l.fn.channels);
  as_opened : map opened_with l.channels ≡ map opened_with l.fn.channels;
}
