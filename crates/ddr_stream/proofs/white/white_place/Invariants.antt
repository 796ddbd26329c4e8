use Rattle.std.proofs.Common.{◌≡◌, ℕ, ◌<◌, false, get_or}
use Rattle.ddr_stream.specs.Line.{is_white}
use Rattle.ddr_stream.proofs.white.white_place.Given as goal

abbrev pub invariant-loop-place : goal.invariant-loop-place
invariant-loop-place l = (k : ℕ) → k < l.place → is_white (get_or l.text k 0) ≡ false
