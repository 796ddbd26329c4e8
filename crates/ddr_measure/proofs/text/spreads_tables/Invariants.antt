use Rattle.std.proofs.Common.{◌≡◌, ◌++◌, drop, string_bytes}
use Rattle.ddr_measure.specs.Spreads.{spreads_tables}
use Rattle.ddr_measure.proofs.text.spreads_tables.Given as goal

abbrev pub invariant-loop-spread : goal.invariant-loop-spread
invariant-loop-spread l = string_bytes l.text ++ spreads_tables l.clock (drop l.spread-index l.spreads) ≡ spreads_tables l.clock l.spreads
