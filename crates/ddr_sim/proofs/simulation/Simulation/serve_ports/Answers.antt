-- One port more was served.
use Rattle.std.proofs.Common.{◌+◌, ◌-◌, ◌<◌, suc, Ok, arith, subst, ◌∙◌}
use Rattle.std.proofs.lemmas.Result.{err_from_is_err_and}
use Rattle.ddr_sim.specs.Simulated.{Simulated}
use Rattle.ddr_sim.proofs.Courses.{port_more, ports_stop, same_on}
use Rattle.ddr_sim.proofs.simulation.Simulation.serve_ports.Goals as goal

pub loop-port-preserved : goal.loop-port-preserved
loop-port-preserved g c =
    let contents = g.W.Write.contents in
    let kept = c.loop-port.invariant in
    let serve = c.serve_port.ensures in
    record {
      leads = port_more c.loop-port.port (c.loop-port.port + 1) c.args.self.now c.loop-port.self c.serve_port.new.self (contents c.args.writer.now) (contents c.loop-port.writer) (contents c.serve_port.new.writer) tt (Ok tt) (omega arith) kept.leads c.in_ok-serve_port.ensures.leads;
      left = serve.left ∙ kept.left;
      same = same_on c.args.self.now c.loop-port.self c.serve_port.new.self 0 0 kept.same serve.same;
    }

pub returns-in_err-serve_port-clause-leads : goal.returns-in_err-serve_port-clause-leads
returns-in_err-serve_port-clause-leads g c =
    let contents = g.W.Write.contents in
    let i = c.loop-port.port in
    let n = c.args.self.now.config.limits.ports in
    let within = subst (λ (s : Simulated). i < s.config.limits.ports) c.self.view_is c.loop-port-test.true in
    let p = err_from_is_err_and c.from_residual.result c.from_residual.ensures.1 in
    rw (p.1, p.2) (ports_stop i (n - suc i) n c.args.self.now c.loop-port.self c.serve_port.new.self (contents c.args.writer.now) (contents c.loop-port.writer) (contents c.serve_port.new.writer) tt c.in_err-serve_port.field-0.0 (omega (arith, within)) c.loop-port.invariant.leads c.in_err-serve_port.ensures.leads)
