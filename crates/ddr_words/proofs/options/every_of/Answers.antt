use Rattle.std.proofs.Common.{codes, sym, subst, ap, IfSome, option_map, ◌∙◌}
use Rattle.std.specs.Str.Parse.{ExplainsUnsignedError, HasUnsignedDigitsIfOk, ParsesUnsigned, digits_value, without_leading_plus}
use Rattle.clap.specs.Simple.{filled}
use Rattle.clap.specs.Words.{found_of, one_text}
use Rattle.clap.proofs.WalkLemmas.{one_text-rows}
use Rattle.ddr_words.specs.Job.{IsTaken, every_rule}
use Rattle.ddr_words.proofs.JobLemmas.{number_read}
use Rattle.ddr_words.proofs.options.every_of.Goals as goal

pub returns : goal.returns
returns c =
    let found = found_of c.args.options.now in
    let rows = one_text-rows found (codes "every") in
    let read = c.get_one.ensures in
    number_read (codes "every") _ (λ u x. ParsesUnsigned 32 10 u x × ExplainsUnsignedError 10 u x × HasUnsignedDigitsIfOk u x) (one_text found (codes "every")) c.get_one.result (λ u x g. g.0) read.none read.value
    (subst (λ o. IfSome o (IsTaken (filled every_rule))) (sym rows) c.requires.every)
    ∙ ap (option_map (λ text. digits_value 10 (without_leading_plus text))) rows
