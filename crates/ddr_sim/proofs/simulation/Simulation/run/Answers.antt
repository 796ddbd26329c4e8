-- A run whose instructions, or the rounds behind them, came to a fault.
use Rattle.std.proofs.Common.{Ok, map}
use Rattle.std.proofs.lemmas.Result.{err_from_is_err_and}
use Rattle.ddr_sim.specs.Rounds.{◌then◌}
use Rattle.ddr_sim.specs.Runs.{all_followed, served_out, ended}
use Rattle.ddr_text.specs.Script.{view}
use Rattle.ddr_sim.proofs.Courses.{leads_stop}
use Rattle.ddr_sim.proofs.Growth.{served_out_grows, ended_grows}
use Rattle.ddr_sim.proofs.simulation.Simulation.run.Goals as goal

pub returns-in_err-follow_all-clause-leads : goal.returns-in_err-follow_all-clause-leads
returns-in_err-follow_all-clause-leads g c =
    let contents = g.W.Write.contents in
    let config = c.args.self.now.config in
    let instructions = map view c.args.instructions.now in
    let fault = c.in_err-follow_all.field-0.0 in
    let next = c.follow_all.new.self in
    let p = err_from_is_err_and c.from_residual.result c.from_residual.ensures.1 in
    rw (p.1, p.2) (leads_stop (λ run. all_followed config instructions run then λ x. served_out config x.left x) (λ run. Ok (ended config run)) c.args.self.now next (contents c.args.writer.now) (contents c.follow_all.new.writer) fault (ended_grows config)
    (leads_stop (all_followed config instructions) (λ x. served_out config x.left x) c.args.self.now next (contents c.args.writer.now) (contents c.follow_all.new.writer) fault (λ run. served_out_grows config run.left run) c.in_err-follow_all.ensures.leads))
