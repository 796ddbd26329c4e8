use Rattle.std.proofs.Common.{◌+◌, arith, below_more}
use Rattle.std.proofs.lemmas.Grind.{common_steps}
use Rattle.std.proofs.lemmas.Nat.Bits.{shr_and_one}
use Rattle.std.proofs.lemmas.Bool.Decides.{nat_tests}
use Rattle.ddr_row_array.proofs.merge.merge_bytes.Goals as goal
use Rattle.ddr_row_array.proofs.merge.merge_bytes.Goals.{then-mask-start-eq1, else-mask-start-eq1}

pub loop-i-preserved : goal.loop-i-preserved
loop-i-preserved c =
    elim c.if-mask-start-eq1.branch [
      | then-mask-start-eq1 w ↦ record {
        before = λ k h. grind (arith, common_steps, c.loop-i.invariant.before k);
        done = below_more _ _ (λ j h. grind (arith, common_steps, c.loop-i.invariant.done j)) (grind (arith, common_steps, nat_tests, shr_and_one));
        rest = λ k h. grind (arith, common_steps, c.loop-i.invariant.rest k);
      }
      | else-mask-start-eq1 w ↦ record {
        before = λ k h. grind (arith, common_steps, c.loop-i.invariant.before k);
        done = below_more _ _ (λ j h. grind (arith, common_steps, c.loop-i.invariant.done j)) (grind (arith, common_steps, nat_tests, shr_and_one, c.loop-i.invariant.rest (c.args.start + c.loop-i.i)));
        rest = λ k h. grind (arith, common_steps, c.loop-i.invariant.rest k);
      }
    ]
