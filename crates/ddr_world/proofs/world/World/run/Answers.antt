-- One event more.
use Rattle.std.proofs.Common.{ℕ, cond, is_ok, is_err, Result, refl, ap, arith}
use Rattle.ddr_world.specs.declared.event.Outcome.{Outcome}
use Rattle.ddr_world.specs.declared.event.Refusal.{Refusal}
use Rattle.ddr_world.specs.declared.world.RunReport.{RunReport}
use Rattle.ddr_world.proofs.StandsLemmas.{runs_none, run_on}
use Rattle.ddr_world.proofs.world.World.run.Goals as goal
use Rattle.ddr_world.proofs.world.World.run.Goals.{in-Ok, in-Err}

pub loop-event-init : goal.loop-event-init
loop-event-init c = record { count = refl; runs = runs_none c.args.self.now }

pub loop-event-preserved : goal.loop-event-preserved
loop-event-preserved c =
    let before = c.loop-event.report in
    elim c.match-step.branch [
      | in-Ok w ↦ record {
        count = omega (arith, c.loop-event.invariant.count, ap (λ (r : RunReport). r.made) w.report-is, ap (λ (r : RunReport). r.refused) w.report-is);
        runs = run_on c.args.self.now c.loop-event.self c.step.new.self c.args.events.now c.loop-event.event-index _ before.made before.refused c.match-step.report.made c.match-step.report.refused c.step.result
            c.loop-event-test.true c.loop-event.invariant.runs
            (omega (arith, ap (λ (r : RunReport). r.made) w.report-is, ap {B = ℕ} (λ (r : Result Outcome Refusal). cond (is_ok r) 1 0) w.in-Ok.is))
            (omega (arith, ap (λ (r : RunReport). r.refused) w.report-is, ap {B = ℕ} (λ (r : Result Outcome Refusal). cond (is_err r) 1 0) w.in-Ok.is))
            c.step.ensures.stands;
      }
      | in-Err w ↦ record {
        count = omega (arith, c.loop-event.invariant.count, ap (λ (r : RunReport). r.made) w.report-is, ap (λ (r : RunReport). r.refused) w.report-is);
        runs = run_on c.args.self.now c.loop-event.self c.step.new.self c.args.events.now c.loop-event.event-index _ before.made before.refused c.match-step.report.made c.match-step.report.refused c.step.result
            c.loop-event-test.true c.loop-event.invariant.runs
            (omega (arith, ap (λ (r : RunReport). r.made) w.report-is, ap {B = ℕ} (λ (r : Result Outcome Refusal). cond (is_ok r) 1 0) w.in-Err.is))
            (omega (arith, ap (λ (r : RunReport). r.refused) w.report-is, ap {B = ℕ} (λ (r : Result Outcome Refusal). cond (is_err r) 1 0) w.in-Err.is))
            c.step.ensures.stands;
      }
    ]
