use Rattle.std.proofs.Common.{◌≡◌, length}
use Rattle.ddr_stream.specs.Line.{white_fields_of}
use Rattle.ddr_stream.proofs.white.without_white.Given as goal

abbrev pub invariant-white : goal.invariant-white
invariant-white l = white_fields_of l.rest ≡ white_fields_of l.text

abbrev pub decreases-white : goal.decreases-white
decreases-white l = length l.rest
