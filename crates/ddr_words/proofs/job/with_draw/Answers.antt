use Rattle.std.proofs.Common.{◌||◌, ap, ap₂, ◌∙◌}
use Rattle.std.proofs.lemmas.Result.{IfOk-weaker}
use Rattle.clap.specs.Words.{App, with_rule, with_subcommand, app_of}
use Rattle.ddr_words.proofs.job.with_draw.Goals as goal

pub returns-clause-app : goal.returns-clause-app
returns-clause-app c =
    let svg_is = c.in_ok-with_svg.ensures.shape c.flag.ensures.local ∙ ap₂ with_rule c.in_ok-draw.ensures.app c.flag.ensures.rule in
    let svg_local = c.in_ok-with_svg.ensures.globals ∙ ap₂ ◌||◌ c.in_ok-draw.ensures.local c.flag.ensures.local in
    let from_is = c.in_ok-with_from.ensures.shape c.cycle_option.ensures.local ∙ ap₂ with_rule svg_is c.cycle_option.ensures.rule in
    let from_local = c.in_ok-with_from.ensures.globals ∙ ap₂ ◌||◌ svg_local c.cycle_option.ensures.local in
    let draw_is = c.in_ok-arg.ensures.shape c.cycle_option-2.ensures.local ∙ ap₂ with_rule from_is c.cycle_option-2.ensures.rule in
    let draw_local = c.in_ok-arg.ensures.globals ∙ ap₂ ◌||◌ from_local c.cycle_option-2.ensures.local in
    IfOk-weaker c.subcommand-2.result _ _ (λ all h. h.shape draw_local ∙ ap (λ (a : App). with_subcommand (app_of c.args.command) a.top) draw_is) c.subcommand-2.ensures

pub returns-clause-local : goal.returns-clause-local
returns-clause-local c =
    let svg_local = c.in_ok-with_svg.ensures.globals ∙ ap₂ ◌||◌ c.in_ok-draw.ensures.local c.flag.ensures.local in
    let from_local = c.in_ok-with_from.ensures.globals ∙ ap₂ ◌||◌ svg_local c.cycle_option.ensures.local in
    let draw_local = c.in_ok-arg.ensures.globals ∙ ap₂ ◌||◌ from_local c.cycle_option-2.ensures.local in
    IfOk-weaker c.subcommand-2.result _ _ (λ all h. h.globals ∙ ap₂ ◌||◌ c.requires.local draw_local) c.subcommand-2.ensures
