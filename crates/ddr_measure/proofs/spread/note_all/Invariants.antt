use Rattle.std.proofs.Common.{◌≡◌, ◌++◌, map, take, drop}
use Rattle.ddr_measure.specs.Spreads.{noted_in}
use Rattle.ddr_measure.proofs.spread.note_all.Given as goal

abbrev pub invariant-loop-spread : goal.invariant-loop-spread
invariant-loop-spread l = l.spreads ≡ map (noted_in l.request) (take l.spread-index l.initial.spreads) ++ drop l.spread-index l.initial.spreads
