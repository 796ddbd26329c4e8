use Rattle.std.proofs.Common.{◌≡◌, ◌++◌, [], drop, map}
use Rattle.ddr_measure.specs.Spreads.{spread_of}
use Rattle.ddr_measure.proofs.spread.add_spans.Given as goal

abbrev pub invariant-loop-span : goal.invariant-loop-span
invariant-loop-span l =
    l.spreads.items ++ map (spread_of [] l.group) (drop l.span-index l.spans) ≡ l.initial.spreads.items ++ map (spread_of [] l.group) l.spans
