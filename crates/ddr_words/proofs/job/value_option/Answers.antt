use Rattle.std.proofs.Common.{Some, ap, ◌∙◌}
use Rattle.clap.specs.Words.{Rule, rule_of}
use Rattle.clap.specs.declared.Arg.{Arg}
use Rattle.ddr_words.proofs.job.value_option.Goals as goal

pub returns-clause-rule : goal.returns-clause-rule
returns-clause-rule c =
    let named : Rule → Rule = λ r. record r { value_names = 1 } in
    let long : Rule → Rule = λ r. record r { long = Some c.args.name.now } in
    ap rule_of c.help.ensures ∙ ap rule_of c.value_name.ensures ∙ ap named (ap rule_of c.long.ensures ∙ ap long c.new.ensures.rule)

pub returns-clause-local : goal.returns-clause-local
returns-clause-local c = ap (λ (a : Arg). a.global) c.help.ensures ∙ ap (λ (a : Arg). a.global) c.value_name.ensures ∙ ap (λ (a : Arg). a.global) c.long.ensures ∙ c.new.ensures.optional.1
