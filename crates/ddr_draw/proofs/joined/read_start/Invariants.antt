use Rattle.std.proofs.Common.{◌≡◌, ◌≤◌, ◌⊎◌, true, vec_len}
use Rattle.std.specs.Io.KnownBytes.{Consumes}
use Rattle.ddr_draw.proofs.joined.read_start.Given as goal

-- each turn that was not interrupted read a byte at least, and a chunk at most is past the limit
abbrev pub invariant-loop-turn : goal.invariant-loop-turn
invariant-loop-turn g l = record {
  turns : (g.R.Source.may_fail ≡ true) ⊎ (l._turn ≤ vec_len l.bytes);
  short : vec_len l.bytes ≤ 16785408;
  taken : Consumes (g.R.Read.remaining l.fn.reader) (g.R.Read.remaining l.reader) l.bytes.items;
}
