use Rattle.std.proofs.Common.{ap, subst}
use Rattle.ddr_stream.specs.Waiting.{IsSized, Waiting}
use Rattle.ddr_stream.proofs.NextLemmas.{after_ask, on_ask}
use Rattle.ddr_stream.proofs.stream.Stream.read_line.Goals as goal

pub returns-in-Ask-clause-same : goal.returns-in-Ask-clause-same
returns-in-Ask-clause-same g c =
    let sent = ap (λ (w : Waiting). w.sent) c.self.view_is in
    let next = rw (c.in-Ask.is, sent) at c.in_ok-next.ensures.next in
    after_ask c.args.self.now c.next.new.self (g.R.Read.remaining c.args.reader.now) (g.R.Read.remaining c.next.new.reader) c.next.ensures.kept c.in-Ask.placed c.push.new.self c.push.result c.requires
    (subst IsSized c.self.view_is c.self.invariant.sized) next.0 next.1 c.push.ensures.pushed

pub returns-in-Ask-clause-rest : goal.returns-in-Ask-clause-rest
returns-in-Ask-clause-rest g c =
    on_ask c.args.self.now c.next.new.self c.next.ensures.kept (subst IsSized c.self.view_is c.self.invariant.sized) c.in-Ask.placed c.push.new.self c.push.result c.push.ensures.pushed c.push.ensures.kept c.push.ensures.sized
