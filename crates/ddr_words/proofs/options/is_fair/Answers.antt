use Rattle.std.proofs.Common.{codes, sym, subst, ap, false, IfSome, ◌∙◌}
use Rattle.std.specs.Option.{option_map_or}
use Rattle.std.specs.Str.{bytes_eq}
use Rattle.clap.specs.Simple.{filled}
use Rattle.clap.specs.Words.{found_of, one_text}
use Rattle.clap.proofs.WalkLemmas.{one_text-rows}
use Rattle.ddr_words.specs.Job.{IsTaken, fair_rule}
use Rattle.ddr_words.proofs.JobLemmas.{flag_read}
use Rattle.ddr_words.proofs.options.is_fair.Goals as goal

pub returns : goal.returns
returns c =
    let found = found_of c.args.options.now in
    let rows = one_text-rows found (codes "fair") in
    let read = c.get_flag.ensures in
    flag_read (codes "fair") (one_text found (codes "fair")) c.get_flag.result read.none read.value read.other (subst (λ o. IfSome o (IsTaken (filled fair_rule))) (sym rows) c.requires.fair)
    ∙ ap (λ o. option_map_or (λ text. bytes_eq text (codes "true")) o false) rows
