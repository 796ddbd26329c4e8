use Rattle.std.proofs.Common.{◌≤◌, subst, sym, arith}
use Rattle.ddr_measure.proofs.ClassLemmas.{first_small, width_small}
use Rattle.ddr_measure.proofs.distribution.last_of.Goals as goal

pub overflow_add-result : goal.overflow_add-result
overflow_add-result c =
    let scale = c.scale_at.ensures in
    let first : c.first_of.result ≤ 17293822569102704640 =
    subst (λ n. n ≤ 17293822569102704640) (sym c.first_of.ensures) (first_small c.args.class (subst (λ k. k ≤ 60) scale.scale scale.within)) in
    let width : c.width_of.result ≤ 1152921504606846976 =
    subst (λ n. n ≤ 1152921504606846976) (sym c.width_of.ensures) (width_small c.scale_at.result scale.within) in
    omega (arith, first, width)
