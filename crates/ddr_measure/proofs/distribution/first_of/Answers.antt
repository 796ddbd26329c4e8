use Rattle.std.proofs.Common.{◌≤◌, subst, rules}
use Rattle.ddr_measure.proofs.ClassLemmas.{first_small}
use Rattle.ddr_measure.proofs.distribution.first_of.Goals as goal

pub overflow_mul-result-2 : goal.overflow_mul-result-2
overflow_mul-result-2 c =
    let scale = c.scale_at-scale.ensures in
    let small = first_small c.args.class (subst (λ k. k ≤ 60) scale.scale scale.within) in
    search (rules, small, scale.scale, c.width_of.ensures)
