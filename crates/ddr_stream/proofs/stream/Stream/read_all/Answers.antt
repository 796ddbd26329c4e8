use Rattle.std.proofs.Common.{ap, subst}
use Rattle.ddr_stream.specs.Waiting.{IsSized, Waiting, all_in}
use Rattle.ddr_stream.proofs.NextLemmas.{read_none, read_on, same_on, same_refl}
use Rattle.ddr_stream.proofs.stream.Stream.read_all.Goals as goal

pub left-init : goal.left-init
left-init g c = record {
  same = same_refl (all_in c.args.self.now (g.R.Read.remaining c.args.reader.now));
  rest = read_none c.args.self.now (subst IsSized c.self.view_is c.self.invariant.sized);
  ended = ap (λ (w : Waiting). w.ended) c.self.view_is;
}

pub left-preserved : goal.left-preserved
left-preserved g c =
    let remaining = g.R.Read.remaining in
    let kept = c.left.invariant in
    record {
      same = same_on (all_in c.args.self.now (remaining c.args.reader.now)) (all_in c.left.self (remaining c.left.reader)) (all_in c.read_line.new.self (remaining c.read_line.new.reader)) kept.same c.in_ok-read_line.ensures.same;
      rest = read_on c.args.self.now c.left.self c.read_line.new.self kept.rest c.read_line.ensures.rest;
      ended = ap (λ (w : Waiting). w.ended) c.self-in-left.view_is;
    }
