-- A request that is refused is printed, unless the run is silent.
use Rattle.std.proofs.Common.{ap, sym, ◌∙◌}
use Rattle.ddr_ports.specs.Asked.{asked_of}
use Rattle.ddr_sim.specs.Simulated.{Simulated}
use Rattle.ddr_sim.proofs.Courses.{refused_aloud, refused_silently}
use Rattle.ddr_sim.proofs.simulation.Simulation.ask.Goals as goal

pub returns-then-self-clause-leads : goal.returns-then-self-clause-leads
returns-then-self-clause-leads g c =
    let answer = c.in-Err.ensures.answer in
    let silent = sym (ap (λ (s : Simulated). s.silent) c.self.view_is) ∙ c.if-self.true in
    refused_silently c.args.port (asked_of c.args.request) c.args.self.now c.make.new.self (g.W.Write.contents c.args.writer.now) c.in-Err.cause tt answer.refused answer.err c.make.ensures.left c.make.ensures.same.silent silent

pub returns-clause-leads : goal.returns-clause-leads
returns-clause-leads g c =
    let answer = c.in-Err.ensures.answer in
    let aloud = sym (ap (λ (s : Simulated). s.silent) c.self.view_is) ∙ c.if-self.false in
    refused_aloud c.args.port (asked_of c.args.request) c.args.self.now c.make.new.self (g.W.Write.contents c.args.writer.now) (g.W.Write.contents c.write_text.new.writer) g.W.Sink.may_fail c.in-Err.cause c.as_str.result.now c.write_text.result
    answer.refused answer.err c.make.ensures.left c.make.ensures.same.silent aloud (c.as_str.ensures.value ∙ c.in_ok-text.ensures) c.write_text.ensures.written c.write_text.ensures.refused c.write_text.ensures.spared
