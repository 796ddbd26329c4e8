use Rattle.std.proofs.Common.{◌≡◌, ◌⊎◌, true}
use Rattle.std.specs.Io.KnownBytes.{Keeps}
use Rattle.ddr_capture.proofs.feed.read_once.Given as goal

abbrev pub invariant-loop-turn : goal.invariant-loop-turn
invariant-loop-turn g l = record {
  turns : (g.R.Source.may_fail ≡ true) ⊎ (l._turn ≡ 0);
  kept : Keeps (g.R.Read.remaining l.fn.reader) (g.R.Read.remaining l.reader);
}
