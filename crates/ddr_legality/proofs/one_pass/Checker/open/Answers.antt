-- Nothing was issued, and no REF was counted.
use Rattle.std.proofs.Common.{rules}
use Rattle.ddr_legality.proofs.one_pass.Checker.open.Goals as goal

pub returns-clause-passed : goal.returns-clause-passed
returns-clause-passed c = record {
  issued = c.in_ok-open.ensures.issued;
  first = search rules;
  second = search rules;
}
