-- One round more, or some quiet ones, while something is outstanding.
use Rattle.std.proofs.Common.{◌≡◌, ◌<◌, ◌-◌, ℕ, List, Ok, Err, IfOk, subst, sym, ◌∙◌}
use Rattle.std.proofs.lemmas.Result.{err_from_is_err_and}
use Rattle.ddr_timing.specs.declared.config.Config.{Config}
use Rattle.ddr_world.specs.Kept.{state_of}
use Rattle.ddr_rounds.specs.Rounds.{outstanding}
use Rattle.ddr_sim.specs.Rounds.{round, rounds}
use Rattle.ddr_sim.specs.Runs.{served_out}
use Rattle.ddr_sim.specs.Simulated.{Leads, run_at}
use Rattle.ddr_sim.proofs.Courses.{served_out_end, served_out_turn, onward_end, onward_stop, onward_turn, same_on}
use Rattle.ddr_sim.proofs.Growth.{served_out_grows}
use Rattle.ddr_sim.proofs.QuietLemmas.{served_out_some}
use Rattle.ddr_sim.proofs.simulation.Simulation.serve_out.Goals as goal

pub rounds-preserved : goal.rounds-preserved
rounds-preserved g c =
    let contents = g.W.Write.contents in
    let config = c.args.self.now.config in
    let now = c.rounds.self in
    let next = c.next_rounds.new.self in
    let kept = c.rounds.invariant in
    let made = c.in_ok-next_rounds.field-0 in
    let busy = sym c.is_idle.ensures ∙ c.rounds-test.true in
    record {
      onward = onward_turn (served_out config c.args.self.now.left) c.args.self.now (contents c.args.writer.now) (served_out config now.left) (rounds config made) (served_out config next.left) now next (contents c.rounds.writer) (contents c.next_rounds.new.writer) tt
          (served_out_some config now next.left made c.in_ok-next_rounds.ensures.made.left busy
          (subst (λ (k : Config). (text : List ℕ) (n : ℕ) → n < made → IfOk (rounds k n (run_at now text)) (λ run. outstanding run.state ≡ outstanding (state_of now.world))) kept.same.config c.in_ok-next_rounds.ensures.made.waits))
          (subst (λ (k : Config). Leads (rounds k made) now (contents c.rounds.writer) next (contents c.next_rounds.new.writer) (Ok tt)) kept.same.config c.in_ok-next_rounds.ensures.made.leads) kept.onward;
      same = same_on c.args.self.now now next 0 0 kept.same c.next_rounds.ensures.same;
    }

pub returns-in_err-next_rounds-clause-leads : goal.returns-in_err-next_rounds-clause-leads
returns-in_err-next_rounds-clause-leads g c =
    let contents = g.W.Write.contents in
    let config = c.args.self.now.config in
    let now = c.rounds.self in
    let next = c.next_rounds.new.self in
    let kept = c.rounds.invariant in
    let busy = sym c.is_idle.ensures ∙ c.rounds-test.true in
    let p = err_from_is_err_and c.from_residual.result c.from_residual.ensures.1 in
    rw (p.1, p.2) (onward_stop (served_out config c.args.self.now.left) c.args.self.now (contents c.args.writer.now) (served_out config now.left) (round config) (served_out config (now.left - 1)) now next (contents c.rounds.writer) (contents c.next_rounds.new.writer) c.in_err-next_rounds.field-0.0 (served_out_grows config (now.left - 1))
    (λ text. served_out_turn config now.left (state_of now.world) text busy)
    (subst (λ (k : Config). Leads (round k) now (contents c.rounds.writer) next (contents c.next_rounds.new.writer) (Err c.in_err-next_rounds.field-0.0)) kept.same.config c.in_err-next_rounds.ensures.fault) kept.onward)

pub returns-clause-leads : goal.returns-clause-leads
returns-clause-leads g c =
    let contents = g.W.Write.contents in
    let config = c.args.self.now.config in
    let now = c.rounds.self in
    onward_end (served_out config c.args.self.now.left) c.args.self.now (contents c.args.writer.now) (served_out config now.left) now (contents c.rounds.writer) tt
    (λ text. served_out_end config now.left (run_at now text) (sym c.is_idle.ensures ∙ c.rounds-test.false)) c.rounds.invariant.onward
