use Rattle.std.proofs.Common.{◌≤◌, arith, rules}
use Rattle.ddr_text.proofs.CanonicalLemmas.{digit_first, digit_more}
use Rattle.ddr_text.proofs.canonical.take_number.Goals as goal

pub digits-init : goal.digits-init
digits-init c =
    let low : 48 ≤ c.in_ok-first.first.now = search rules in
    let high : c.in_ok-first.first.now ≤ 57 = search rules in
    rw c.from-number.ensures (digit_first _ _ _ c.in_ok-first.ensures.cases.0 low high)

pub digits-preserved : goal.digits-preserved
digits-preserved c =
    let low : 48 ≤ c.in-Some.byte.now = search rules in
    let high : c.in-Some.byte.now ≤ 57 = search rules in
    rw c.from.ensures (digit_more _ _ _ _ _ c.digits.invariant c.in-Some.ensures.cases.0 low high (omega arith) (omega arith))
