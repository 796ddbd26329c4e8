use Rattle.std.proofs.Common.{◌||◌, ap₂, ◌∙◌, refl}
use Rattle.std.proofs.lemmas.Result.{IfOk-weaker}
use Rattle.clap.specs.Words.{with_rule}
use Rattle.ddr_words.proofs.job.with_faults.Goals as goal

pub returns-clause-app : goal.returns-clause-app
returns-clause-app c =
    let explain_is = c.in_ok-explaining.ensures.shape c.flag.ensures.local ∙ ap₂ with_rule refl c.flag.ensures.rule in
    let all_is = c.in_ok-telling.ensures.shape c.flag-2.ensures.local ∙ ap₂ with_rule explain_is c.flag-2.ensures.rule in
    IfOk-weaker c.arg-3.result _ _ (λ all h. h.shape c.number_option.ensures.local ∙ ap₂ with_rule all_is c.number_option.ensures.rule) c.arg-3.ensures

pub returns-clause-local : goal.returns-clause-local
returns-clause-local c =
    let explain_local = c.in_ok-explaining.ensures.globals ∙ ap₂ ◌||◌ c.requires.local c.flag.ensures.local in
    let all_local = c.in_ok-telling.ensures.globals ∙ ap₂ ◌||◌ explain_local c.flag-2.ensures.local in
    IfOk-weaker c.arg-3.result _ _ (λ all h. h.globals ∙ ap₂ ◌||◌ all_local c.number_option.ensures.local) c.arg-3.ensures
