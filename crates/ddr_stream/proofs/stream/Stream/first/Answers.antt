use Rattle.ddr_stream.specs.Waiting.{all_in}
use Rattle.ddr_stream.proofs.NextLemmas.{read_none, read_on, same_on, same_refl}
use Rattle.ddr_stream.proofs.stream.Stream.first.Goals as goal

pub lines-init : goal.lines-init
lines-init g c = record {
  same = same_refl (all_in c.args.self.now (g.R.Read.remaining c.args.reader.now));
  rest = read_none c.args.self.now c.known-known.ensures.sized;
  known = c.known-known.ensures.first;
}

pub lines-preserved : goal.lines-preserved
lines-preserved g c =
    let remaining = g.R.Read.remaining in
    let kept = c.lines.invariant in
    record {
      same = same_on (all_in c.args.self.now (remaining c.args.reader.now)) (all_in c.lines.self (remaining c.lines.reader)) (all_in c.read_line.new.self (remaining c.read_line.new.reader)) kept.same c.in_ok-read_line.ensures.same;
      rest = read_on c.args.self.now c.lines.self c.read_line.new.self kept.rest c.read_line.ensures.rest;
      known = c.known-known-in-lines.ensures.first;
    }
