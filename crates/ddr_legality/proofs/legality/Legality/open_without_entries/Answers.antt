-- The empty trace is legal.
use Rattle.std.proofs.Common.{◌+◌, refl, arith}
use Rattle.ddr_legality.proofs.LegalLemmas.{IsLegal-empty}
use Rattle.ddr_legality.proofs.FewLemmas.{few_none}
use Rattle.ddr_legality.proofs.legality.Legality.open_without_entries.Goals as goal

pub invariant_of-result : goal.invariant_of-result
invariant_of-result c = record {
  issued = rw c.new.ensures c.in_ok-open.ensures.issued;
  legal = rw c.new.ensures (IsLegal-empty c.in_ok-open.field-0.config c.in_ok-open.field-0.start (c.args.first + 1));
  begun = omega (arith, c.in_ok-open.ensures.start);
  clock = omega arith;
  few = rw c.new.ensures few_none;
  reach = rw c.new.ensures refl;
  kept = λ _. rw c.new.ensures c.new-2.ensures.items;
  unkept = λ _. c.new-2.ensures.items;
}
