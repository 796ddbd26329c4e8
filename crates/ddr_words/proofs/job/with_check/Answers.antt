use Rattle.std.proofs.Common.{◌||◌, ap, ap₂, ◌∙◌}
use Rattle.std.proofs.lemmas.Result.{IfOk-weaker}
use Rattle.clap.specs.Words.{App, app_of, with_subcommand}
use Rattle.ddr_words.specs.Job.{with_capture, with_faults}
use Rattle.ddr_words.proofs.job.with_check.Goals as goal

pub returns-clause-app : goal.returns-clause-app
returns-clause-app c =
    let check_is = c.in_ok-with_capture.ensures.app ∙ ap with_capture (c.in_ok-telling.ensures.app ∙ ap with_faults c.in_ok-check.ensures.app) in
    IfOk-weaker c.subcommand-2.result _ _ (λ all h. h.shape c.in_ok-with_capture.ensures.local ∙ ap (λ (a : App). with_subcommand (app_of c.args.command) a.top) check_is) c.subcommand-2.ensures

pub returns-clause-local : goal.returns-clause-local
returns-clause-local c =
    IfOk-weaker c.subcommand-2.result _ _ (λ all h. h.globals ∙ ap₂ ◌||◌ c.requires.local c.in_ok-with_capture.ensures.local) c.subcommand-2.ensures
