use Rattle.std.proofs.Common.{◌≡◌, ◌++◌, [], drop, map}
use Rattle.std.specs.Prelude.{flat_map}
use Rattle.ddr_measure.specs.Spreads.{spread_of}
use Rattle.ddr_measure.specs.Text.{all_spans}
use Rattle.ddr_measure.proofs.spread.no_spreads.Given as goal

abbrev pub invariant-loop-group : goal.invariant-loop-group
invariant-loop-group l =
    l.spreads.items ++ flat_map (λ group. map (spread_of [] group) all_spans) (drop l.group-index l.groups) ≡ flat_map (λ group. map (spread_of [] group) all_spans) l.groups
