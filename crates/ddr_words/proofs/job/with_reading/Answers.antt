use Rattle.std.proofs.Common.{◌||◌, ap₂, ◌∙◌, refl}
use Rattle.std.proofs.lemmas.Result.{IfOk-weaker}
use Rattle.clap.specs.Words.{with_rule}
use Rattle.ddr_words.proofs.job.with_reading.Goals as goal

pub returns-clause-app : goal.returns-clause-app
returns-clause-app c =
    let dramsim3_is = c.in_ok-with_dramsim3.ensures.shape c.flag.ensures.local ∙ ap₂ with_rule refl c.flag.ensures.rule in
    let ramulator2_is = c.in_ok-with_ramulator2.ensures.shape c.flag-2.ensures.local ∙ ap₂ with_rule dramsim3_is c.flag-2.ensures.rule in
    let spread_is = c.in_ok-with_spread.ensures.shape c.flag-3.ensures.local ∙ ap₂ with_rule ramulator2_is c.flag-3.ensures.rule in
    let wrap_is = c.in_ok-with_wrap.ensures.shape c.flag-4.ensures.local ∙ ap₂ with_rule spread_is c.flag-4.ensures.rule in
    let from_first_is = c.in_ok-with_from_first.ensures.shape c.flag-5.ensures.local ∙ ap₂ with_rule wrap_is c.flag-5.ensures.rule in
    IfOk-weaker c.arg-6.result _ _ (λ all h. h.shape c.flag-6.ensures.local ∙ ap₂ with_rule from_first_is c.flag-6.ensures.rule) c.arg-6.ensures

pub returns-clause-local : goal.returns-clause-local
returns-clause-local c =
    let dramsim3_local = c.in_ok-with_dramsim3.ensures.globals ∙ ap₂ ◌||◌ c.requires.local c.flag.ensures.local in
    let ramulator2_local = c.in_ok-with_ramulator2.ensures.globals ∙ ap₂ ◌||◌ dramsim3_local c.flag-2.ensures.local in
    let spread_local = c.in_ok-with_spread.ensures.globals ∙ ap₂ ◌||◌ ramulator2_local c.flag-3.ensures.local in
    let wrap_local = c.in_ok-with_wrap.ensures.globals ∙ ap₂ ◌||◌ spread_local c.flag-4.ensures.local in
    let from_first_local = c.in_ok-with_from_first.ensures.globals ∙ ap₂ ◌||◌ wrap_local c.flag-5.ensures.local in
    IfOk-weaker c.arg-6.result _ _ (λ all h. h.globals ∙ ap₂ ◌||◌ from_first_local c.flag-6.ensures.local) c.arg-6.ensures
