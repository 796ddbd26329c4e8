use Rattle.std.proofs.Common.{◌≡◌, ◌++◌, length, string_bytes}
use Rattle.ddr_draw.specs.Sketch.{boxes_of}
use Rattle.ddr_draw.proofs.kept_boxes.boxes_of.Given as goal

-- the rest is still to be drawn
abbrev pub invariant-boxes : goal.invariant-boxes
invariant-boxes l = boxes_of l.config l.view l.boxes ≡ string_bytes l.text ++ boxes_of l.config l.view l.rest

abbrev pub decreases-boxes : goal.decreases-boxes
decreases-boxes l = length l.rest
