-- One instruction more.
use Rattle.std.proofs.Common.{map, drop, arith, ◌∙◌}
use Rattle.std.proofs.lemmas.Result.{err_from_is_err_and}
use Rattle.ddr_sim.specs.Runs.{all_followed}
use Rattle.ddr_text.specs.Script.{view}
use Rattle.ddr_sim.specs.Simulated.{run_at}
use Rattle.ddr_sim.proofs.Courses.{followed_end, followed_on, followed_stop, onward_end}
use Rattle.ddr_sim.proofs.simulation.Simulation.follow_all.Goals as goal

pub loop-instruction-preserved : goal.loop-instruction-preserved
loop-instruction-preserved g c =
    let kept = c.loop-instruction.invariant in
    record {
      onward = followed_on c.args.instructions.now c.loop-instruction.instruction-index c.instruction-item.result c.args.self.now c.loop-instruction.self c.follow.new.self (g.W.Write.contents c.args.writer.now) (g.W.Write.contents c.loop-instruction.writer) (g.W.Write.contents c.follow.new.writer) tt
          c.loop-instruction-test.true c.instruction-item.is kept.config c.in_ok-follow.ensures.leads kept.onward;
      config = c.follow.ensures.same.config ∙ kept.config;
      silent = c.follow.ensures.same.silent ∙ kept.silent;
      waiting = omega (arith, c.follow.ensures.same.waiting, kept.waiting);
    }

pub returns-in_err-follow-clause-leads : goal.returns-in_err-follow-clause-leads
returns-in_err-follow-clause-leads g c =
    let p = err_from_is_err_and c.from_residual.result c.from_residual.ensures.1 in
    rw (p.1, p.2) (followed_stop c.args.instructions.now c.loop-instruction.instruction-index c.instruction-item.result c.args.self.now c.loop-instruction.self c.follow.new.self (g.W.Write.contents c.args.writer.now) (g.W.Write.contents c.loop-instruction.writer) (g.W.Write.contents c.follow.new.writer) c.in_err-follow.field-0.0
    c.loop-instruction-test.true c.instruction-item.is c.loop-instruction.invariant.config c.in_err-follow.ensures.leads c.loop-instruction.invariant.onward)

pub returns-clause-leads : goal.returns-clause-leads
returns-clause-leads g c =
    let contents = g.W.Write.contents in
    let config = c.args.self.now.config in
    let xs = c.args.instructions.now in
    let now = c.loop-instruction.self in
    let i = c.loop-instruction.instruction-index in
    onward_end (all_followed config (map view xs)) c.args.self.now (contents c.args.writer.now) (all_followed config (map view (drop i xs))) now (contents c.loop-instruction.writer) tt
    (λ text. followed_end config xs i (run_at now text) c.loop-instruction-test.false) c.loop-instruction.invariant.onward
