use Rattle.std.proofs.Common.{◌≡◌, ◌≤◌, ◌⊎◌, true, vec_len}
use Rattle.std.specs.Io.KnownBytes.{Consumes}
use Rattle.ddr_text.proofs.input.read_at_most.Given as goal

abbrev pub invariant-loop-turn : goal.invariant-loop-turn
invariant-loop-turn g l = record {
  turns : (g.R.Source.may_fail ≡ true) ⊎ (l._turn ≤ vec_len l.input);
  short : vec_len l.input ≤ l.most;
  taken : Consumes (g.R.Read.remaining l.fn.reader) (g.R.Read.remaining l.reader) l.input.items;
}
