use Rattle.std.proofs.Common.{◌≡◌, ◌++◌, length, string_bytes}
use Rattle.ddr_draw.specs.Lanes.{bars}
use Rattle.ddr_draw.proofs.bars.bars.Given as goal

-- the rest is still to be drawn
abbrev pub invariant-entries : goal.invariant-entries
invariant-entries l = bars l.config l.view l.entries ≡ string_bytes l.text ++ bars l.config l.view l.rest

abbrev pub decreases-entries : goal.decreases-entries
decreases-entries l = length l.rest
