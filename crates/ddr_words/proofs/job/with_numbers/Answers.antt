use Rattle.std.proofs.Common.{◌||◌, ap₂, ◌∙◌, refl}
use Rattle.std.proofs.lemmas.Result.{IfOk-weaker}
use Rattle.clap.specs.Words.{with_rule}
use Rattle.ddr_words.proofs.job.with_numbers.Goals as goal

pub returns-clause-app : goal.returns-clause-app
returns-clause-app c =
    let counting_is = c.in_ok-counting.ensures.shape c.flag.ensures.local ∙ ap₂ with_rule refl c.flag.ensures.rule in
    let skipping_is = c.in_ok-skipping.ensures.shape c.number_option.ensures.local ∙ ap₂ with_rule counting_is c.number_option.ensures.rule in
    let timing_is = c.in_ok-timing.ensures.shape c.number_option-2.ensures.local ∙ ap₂ with_rule skipping_is c.number_option-2.ensures.rule in
    IfOk-weaker c.arg-4.result _ _ (λ all h. h.shape c.number_option-3.ensures.local ∙ ap₂ with_rule timing_is c.number_option-3.ensures.rule) c.arg-4.ensures

pub returns-clause-local : goal.returns-clause-local
returns-clause-local c =
    let counting_local = c.in_ok-counting.ensures.globals ∙ ap₂ ◌||◌ c.requires.local c.flag.ensures.local in
    let skipping_local = c.in_ok-skipping.ensures.globals ∙ ap₂ ◌||◌ counting_local c.number_option.ensures.local in
    let timing_local = c.in_ok-timing.ensures.globals ∙ ap₂ ◌||◌ skipping_local c.number_option-2.ensures.local in
    IfOk-weaker c.arg-4.result _ _ (λ all h. h.globals ∙ ap₂ ◌||◌ timing_local c.number_option-3.ensures.local) c.arg-4.ensures
