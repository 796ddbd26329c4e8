use Rattle.std.proofs.Common.{codes, ap, ◌∙◌}
use Rattle.std.proofs.lemmas.Result.{IfOk-weaker}
use Rattle.clap.specs.Words.{App, with_rule, with_subcommand}
use Rattle.ddr_words.specs.Job.{check_app, ddr_app, draw_app, lint_app, replay_app, trace_rule, with_sample}
use Rattle.ddr_words.proofs.job.command.Goals as goal

pub returns-clause-app : goal.returns-clause-app
unfolding ddr_app
returns-clause-app c =
    let with_sim : App → App = λ a. with_subcommand a (with_rule (with_sample (codes "sim")) trace_rule).top in
    let with_run : App → App = λ a. with_subcommand a (with_sample (codes "run")).top in
    let with_replay : App → App = λ a. with_subcommand a replay_app.top in
    let with_check : App → App = λ a. with_subcommand a check_app.top in
    let with_draw : App → App = λ a. with_subcommand a draw_app.top in
    let with_map : App → App = λ a. with_subcommand a (with_sample (codes "map")).top in
    let with_lint : App → App = λ a. with_subcommand a lint_app.top in
    IfOk-weaker c.with_lint.result _ _ (λ command h.
    h
    ∙ ap with_lint (c.in_ok-map.ensures.app
    ∙ ap with_map (c.in_ok-draw.ensures.app ∙ ap with_draw (c.in_ok-check.ensures.app ∙ ap with_check (c.in_ok-replay.ensures.app ∙ ap with_replay (c.in_ok-run.ensures.app ∙ ap with_run (c.in_ok-sim.ensures.app ∙ ap with_sim c.in_ok-program.ensures.app))))))) c.with_lint.ensures.app
