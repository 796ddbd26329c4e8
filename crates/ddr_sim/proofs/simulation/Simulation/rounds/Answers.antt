-- One round more, or some quiet ones.
use Rattle.std.proofs.Common.{Ok, Err, ◌-◌, arith, subst}
use Rattle.std.proofs.lemmas.Result.{err_from_is_err_and}
use Rattle.ddr_timing.specs.declared.config.Config.{Config}
use Rattle.ddr_sim.specs.Rounds.{round, rounds}
use Rattle.ddr_sim.specs.Simulated.{Leads, run_at}
use Rattle.ddr_sim.proofs.Courses.{onward_end, onward_stop, onward_turn, rounds_end, rounds_turn, same_on}
use Rattle.ddr_sim.proofs.Growth.{rounds_grow}
use Rattle.ddr_sim.proofs.QuietLemmas.{rounds_some}
use Rattle.ddr_sim.proofs.simulation.Simulation.rounds.Goals as goal

pub rounds-preserved : goal.rounds-preserved
rounds-preserved g c =
    let contents = g.W.Write.contents in
    let config = c.args.self.now.config in
    let now = c.rounds.self in
    let next = c.next_rounds.new.self in
    let kept = c.rounds.invariant in
    let made = c.in_ok-made.made in
    let n = c.rounds.to_make in
    record {
      onward = onward_turn (rounds config c.args.count) c.args.self.now (contents c.args.writer.now) (rounds config n) (rounds config made) (rounds config (n - made)) now next (contents c.rounds.writer) (contents c.next_rounds.new.writer) tt
          (λ text. rounds_some config n made (run_at now text) c.in_ok-made.ensures.made.within)
          (subst (λ (k : Config). Leads (rounds k made) now (contents c.rounds.writer) next (contents c.next_rounds.new.writer) (Ok tt)) kept.same.config c.in_ok-made.ensures.made.leads) kept.onward;
      same = same_on c.args.self.now now next 0 0 kept.same c.next_rounds.ensures.same;
    }

pub returns-in_err-made-clause-leads : goal.returns-in_err-made-clause-leads
returns-in_err-made-clause-leads g c =
    let contents = g.W.Write.contents in
    let config = c.args.self.now.config in
    let now = c.rounds.self in
    let next = c.next_rounds.new.self in
    let kept = c.rounds.invariant in
    let n = c.rounds.to_make in
    let p = err_from_is_err_and c.from_residual.result c.from_residual.ensures.1 in
    rw (p.1, p.2) (onward_stop (rounds config c.args.count) c.args.self.now (contents c.args.writer.now) (rounds config n) (round config) (rounds config (n - 1)) now next (contents c.rounds.writer) (contents c.next_rounds.new.writer) c.in_err-made.field-0.0 (rounds_grow config (n - 1))
    (λ text. rounds_turn config n (n - 1) (run_at now text) (omega (arith, c.rounds-test.true)))
    (subst (λ (k : Config). Leads (round k) now (contents c.rounds.writer) next (contents c.next_rounds.new.writer) (Err c.in_err-made.field-0.0)) kept.same.config c.in_err-made.ensures.fault) kept.onward)

pub returns-clause-leads : goal.returns-clause-leads
returns-clause-leads g c =
    let contents = g.W.Write.contents in
    let config = c.args.self.now.config in
    let now = c.rounds.self in
    let n = c.rounds.to_make in
    onward_end (rounds config c.args.count) c.args.self.now (contents c.args.writer.now) (rounds config n) now (contents c.rounds.writer) tt
    (λ text. rounds_end config n (run_at now text) (omega (arith, c.rounds-test.false))) c.rounds.invariant.onward
