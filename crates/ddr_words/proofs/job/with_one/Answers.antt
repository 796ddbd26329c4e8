use Rattle.std.proofs.Common.{◌||◌, ap, ap₂, ◌∙◌}
use Rattle.std.proofs.lemmas.Result.{IfOk-weaker}
use Rattle.clap.specs.Words.{App, with_subcommand, app_of}
use Rattle.ddr_words.proofs.job.with_one.Goals as goal

pub returns-clause-app : goal.returns-clause-app
returns-clause-app c =
    IfOk-weaker c.subcommand-2.result _ _ (λ all h. h.shape c.in_ok-subcommand.ensures.local ∙ ap (λ (a : App). with_subcommand (app_of c.args.command) a.top) c.in_ok-subcommand.ensures.app) c.subcommand-2.ensures

pub returns-clause-local : goal.returns-clause-local
returns-clause-local c =
    IfOk-weaker c.subcommand-2.result _ _ (λ all h. h.globals ∙ ap₂ ◌||◌ c.requires.local c.in_ok-subcommand.ensures.local) c.subcommand-2.ensures
