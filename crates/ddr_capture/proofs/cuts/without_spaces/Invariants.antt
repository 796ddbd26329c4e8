use Rattle.std.proofs.Common.{◌≡◌, length}
use Rattle.ddr_text.specs.Script.{fields_of}
use Rattle.ddr_capture.proofs.cuts.without_spaces.Given as goal

abbrev pub invariant-spaces : goal.invariant-spaces
invariant-spaces l = fields_of l.rest ≡ fields_of l.text

abbrev pub decreases-spaces : goal.decreases-spaces
decreases-spaces l = length l.rest
