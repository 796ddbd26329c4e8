use Rattle.std.proofs.Common.{◌||◌, ap, ap₂, ◌∙◌}
use Rattle.std.proofs.lemmas.Result.{IfOk-weaker}
use Rattle.clap.specs.Words.{App, app_of, with_subcommand}
use Rattle.ddr_words.specs.Job.{with_numbers, with_reading, with_telling}
use Rattle.ddr_words.proofs.job.with_replay.Goals as goal

pub returns-clause-app : goal.returns-clause-app
returns-clause-app c =
    let replay_is = c.in_ok-with_numbers.ensures.app ∙ ap with_numbers (c.in_ok-telling.ensures.app ∙ ap with_telling (c.in_ok-reading.ensures.app ∙ ap with_reading c.in_ok-replay.ensures.app)) in
    IfOk-weaker c.subcommand-2.result _ _ (λ all h. h.shape c.in_ok-with_numbers.ensures.local ∙ ap (λ (a : App). with_subcommand (app_of c.args.command) a.top) replay_is) c.subcommand-2.ensures

pub returns-clause-local : goal.returns-clause-local
returns-clause-local c =
    IfOk-weaker c.subcommand-2.result _ _ (λ all h. h.globals ∙ ap₂ ◌||◌ c.requires.local c.in_ok-with_numbers.ensures.local) c.subcommand-2.ensures
