use Rattle.std.proofs.Common.{◌||◌, ap, ap₂, ◌∙◌}
use Rattle.std.proofs.lemmas.Result.{IfOk-weaker}
use Rattle.clap.specs.Words.{App, with_rule, with_subcommand, app_of}
use Rattle.ddr_words.proofs.job.with_lint.Goals as goal

pub returns-clause-app : goal.returns-clause-app
returns-clause-app c =
    let lint_is = c.in_ok-arg.ensures.shape c.flag.ensures.local ∙ ap₂ with_rule c.in_ok-lint.ensures.app c.flag.ensures.rule in
    let lint_local = c.in_ok-arg.ensures.globals ∙ ap₂ ◌||◌ c.in_ok-lint.ensures.local c.flag.ensures.local in
    IfOk-weaker c.subcommand-2.result _ _ (λ all h. h.shape lint_local ∙ ap (λ (a : App). with_subcommand (app_of c.args.command) a.top) lint_is) c.subcommand-2.ensures

pub returns-clause-local : goal.returns-clause-local
returns-clause-local c =
    let lint_local = c.in_ok-arg.ensures.globals ∙ ap₂ ◌||◌ c.in_ok-lint.ensures.local c.flag.ensures.local in
    IfOk-weaker c.subcommand-2.result _ _ (λ all h. h.globals ∙ ap₂ ◌||◌ c.requires.local lint_local) c.subcommand-2.ensures
