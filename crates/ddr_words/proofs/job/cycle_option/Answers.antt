use Rattle.std.proofs.Common.{Option, Some, ap, ap₂, ◌∙◌}
use Rattle.clap.specs.Words.{Rule, rule_of}
use Rattle.clap.specs.declared.Arg.{Arg}
use Rattle.clap.specs.declared.builder.value_parser.ValueParser.{ValueParser}
use Rattle.ddr_words.proofs.job.cycle_option.Goals as goal

pub returns-clause-rule : goal.returns-clause-rule
returns-clause-rule c =
    let given = c.value_parser-2.ensures.given in
    ap rule_of c.value_parser-2.ensures.others ∙ ap₂ (λ (r : Rule) (q : Option ValueParser). record r { parser = q }) c.value_option.ensures.rule (given.1 ∙ ap Some (given.2 ∙ c.value_parser.ensures))

pub returns-clause-local : goal.returns-clause-local
returns-clause-local c = ap (λ (a : Arg). a.global) c.value_parser-2.ensures.others ∙ c.value_option.ensures.local
