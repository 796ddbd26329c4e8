use Rattle.ddr_draw.proofs.LongLemmas.{end_more}
use Rattle.ddr_draw.proofs.long.found_nothing.Goals as goal

pub returns-in_default : goal.returns-in_default
returns-in_default c = record {
  said = λ trace a b d text ends is. end_more c.args.line trace c.args.found text a b d ends is c.in_default.not-End;
  sure = λ e. cc;
  unwritten = λ e. cc;
}
