use Rattle.std.proofs.Common.{ap, true, ◌∙◌}
use Rattle.clap.specs.Simple.{app_of_fields}
use Rattle.clap.specs.Words.{App}
use Rattle.ddr_words.proofs.job.program.Goals as goal

pub returns-clause-app : goal.returns-clause-app
returns-clause-app c =
    let required : App → App = λ a. record a { top = record a.top { subcommand_required = true } } in
    let no_help : App → App = λ a. record a { top = record a.top { disable_help_subcommand = true } } in
    ap app_of_fields c.disable_help_subcommand.ensures ∙ ap no_help (ap app_of_fields c.subcommand_required.ensures ∙ ap required (ap app_of_fields c.after_help.ensures ∙ ap app_of_fields c.about.ensures ∙ ap app_of_fields c.in_ok-named.ensures.0 ∙ c.new.ensures.app))

pub returns-clause-local : goal.returns-clause-local
returns-clause-local c =
    ap (λ f. f.has_globals) c.disable_help_subcommand.ensures ∙ ap (λ f. f.has_globals) c.subcommand_required.ensures ∙ ap (λ f. f.has_globals) c.after_help.ensures ∙ ap (λ f. f.has_globals) c.about.ensures ∙ ap (λ f. f.has_globals) c.in_ok-named.ensures.0 ∙ c.new.ensures.local
