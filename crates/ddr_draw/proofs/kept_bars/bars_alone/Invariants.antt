use Rattle.std.proofs.Common.{◌≡◌, ◌++◌, length, string_bytes}
use Rattle.ddr_draw.specs.Sketch.{bars_alone}
use Rattle.ddr_draw.proofs.kept_bars.bars_alone.Given as goal

-- the rest is still to be drawn
abbrev pub invariant-bars : goal.invariant-bars
invariant-bars l = bars_alone l.config l.view l.bars ≡ string_bytes l.text ++ bars_alone l.config l.view l.rest

abbrev pub decreases-bars : goal.decreases-bars
decreases-bars l = length l.rest
