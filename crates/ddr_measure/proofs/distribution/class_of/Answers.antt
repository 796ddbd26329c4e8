use Rattle.std.proofs.Common.{◌≤◌, ◌/◌, ◌^◌, subst, sym, arith}
use Rattle.ddr_measure.proofs.ClassLemmas.{scaled}
use Rattle.ddr_measure.proofs.distribution.class_of.Goals as goal

pub overflow_add-result : goal.overflow_add-result
overflow_add-result c =
    let small = scaled c.args.value c.ranges.value.fits in
    let scale = sym c.scale_of-scale.ensures in
    let few : c.scale_of-scale.result ≤ 60 = subst (λ k. k ≤ 60) scale small.0 in
    let low : c.args.value / 2 ^ c.scale_of-scale.result ≤ 15 = subst (λ k. c.args.value / 2 ^ k ≤ 15) scale small.1 in
    omega (arith, few, low)

pub returns-clause-within : goal.returns-clause-within
returns-clause-within c =
    let small = scaled c.args.value c.ranges.value.fits in
    let scale = sym c.scale_of-scale.ensures in
    let few : c.scale_of-scale.result ≤ 60 = subst (λ k. k ≤ 60) scale small.0 in
    let low : c.args.value / 2 ^ c.scale_of-scale.result ≤ 15 = subst (λ k. c.args.value / 2 ^ k ≤ 15) scale small.1 in
    omega (arith, few, low)
