use Rattle.std.proofs.Common.{◌||◌, ap, ap₂, ◌∙◌}
use Rattle.std.proofs.lemmas.Result.{IfOk-weaker}
use Rattle.clap.specs.Words.{App, with_rule, with_subcommand, app_of}
use Rattle.ddr_words.proofs.job.with_sim.Goals as goal

pub returns-clause-app : goal.returns-clause-app
returns-clause-app c =
    let sim_is = c.in_ok-arg.ensures.shape c.number_option.ensures.local ∙ ap₂ with_rule c.in_ok-sim.ensures.app c.number_option.ensures.rule in
    let sim_local = c.in_ok-arg.ensures.globals ∙ ap₂ ◌||◌ c.in_ok-sim.ensures.local c.number_option.ensures.local in
    IfOk-weaker c.subcommand-2.result _ _ (λ all h. h.shape sim_local ∙ ap (λ (a : App). with_subcommand (app_of c.args.command) a.top) sim_is) c.subcommand-2.ensures

pub returns-clause-local : goal.returns-clause-local
returns-clause-local c =
    let sim_local = c.in_ok-arg.ensures.globals ∙ ap₂ ◌||◌ c.in_ok-sim.ensures.local c.number_option.ensures.local in
    IfOk-weaker c.subcommand-2.result _ _ (λ all h. h.globals ∙ ap₂ ◌||◌ c.requires.local sim_local) c.subcommand-2.ensures
