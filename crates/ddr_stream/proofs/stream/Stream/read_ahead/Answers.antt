use Rattle.std.proofs.Common.{ℕ, below_more, ap, sym, ◌∙◌, arith}
use Rattle.ddr_timing.specs.declared.config.Config.{Config}
use Rattle.ddr_stream.specs.Waiting.{Knows, Waiting, all_in}
use Rattle.ddr_stream.proofs.NextLemmas.{read_on, same_on}
use Rattle.ddr_stream.proofs.stream.Stream.read_ahead.Goals as goal

pub loop-port-preserved : goal.loop-port-preserved
loop-port-preserved g c =
    let remaining = g.R.Read.remaining in
    let kept = c.loop-port.invariant in
    let on = c.first.ensures.rest in
    record {
      same = same_on (all_in c.args.self.now (remaining c.args.reader.now)) (all_in c.loop-port.self (remaining c.loop-port.reader)) (all_in c.first.new.self (remaining c.first.new.reader)) kept.same c.in_ok-first.ensures.same;
      rest = read_on c.args.self.now c.loop-port.self c.first.new.self kept.rest on;
      ahead = below_more (λ (port : ℕ). Knows c.first.new.self port) c.loop-port.port (λ port below. on.knows port (kept.ahead port below)) c.in_ok-first.ensures.knows;
    }

pub returns-in_err-first-clause-rest : goal.returns-in_err-first-clause-rest
returns-in_err-first-clause-rest g c = read_on c.args.self.now c.loop-port.self c.first.new.self c.loop-port.invariant.rest c.first.ensures.rest

pub returns-clause-ahead : goal.returns-clause-ahead
returns-clause-ahead g c = λ port below.
    let config = c.loop-port.invariant.rest.config ∙ sym (ap (λ (w : Waiting). w.config) c.self.view_is) in
    let ports = ap (λ (config : Config). config.limits.ports) config in
    c.loop-port.invariant.ahead port (omega (arith, below, ports, c.loop-port-test.false))
