use Rattle.std.proofs.Common.{◌||◌, ap₂, ◌∙◌, refl}
use Rattle.std.proofs.lemmas.Result.{IfOk-weaker}
use Rattle.clap.specs.Words.{with_rule}
use Rattle.ddr_words.proofs.job.with_telling.Goals as goal

pub returns-clause-app : goal.returns-clause-app
returns-clause-app c =
    let listing_is = c.in_ok-listing.ensures.shape c.flag.ensures.local ∙ ap₂ with_rule refl c.flag.ensures.rule in
    let tracing_is = c.in_ok-tracing.ensures.shape c.number_option.ensures.local ∙ ap₂ with_rule listing_is c.number_option.ensures.rule in
    let exporting_is = c.in_ok-exporting.ensures.shape c.number_option-2.ensures.local ∙ ap₂ with_rule tracing_is c.number_option-2.ensures.rule in
    IfOk-weaker c.arg-4.result _ _ (λ all h. h.shape c.flag-2.ensures.local ∙ ap₂ with_rule exporting_is c.flag-2.ensures.rule) c.arg-4.ensures

pub returns-clause-local : goal.returns-clause-local
returns-clause-local c =
    let listing_local = c.in_ok-listing.ensures.globals ∙ ap₂ ◌||◌ c.requires.local c.flag.ensures.local in
    let tracing_local = c.in_ok-tracing.ensures.globals ∙ ap₂ ◌||◌ listing_local c.number_option.ensures.local in
    let exporting_local = c.in_ok-exporting.ensures.globals ∙ ap₂ ◌||◌ tracing_local c.number_option-2.ensures.local in
    IfOk-weaker c.arg-4.result _ _ (λ all h. h.globals ∙ ap₂ ◌||◌ exporting_local c.flag-2.ensures.local) c.arg-4.ensures
