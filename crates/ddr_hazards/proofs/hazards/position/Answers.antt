use Rattle.std.proofs.Common.{◌≡◌, ℕ, ◌<◌, ◌≤◌, eqb, length, arith, sym, eq-eqb}
use Rattle.std.proofs.lemmas.List.Sums.{position_or_len_is}
use Rattle.ddr_hazards.proofs.hazards.position.Goals as goal

pub returns-then-it-slot : goal.returns-then-it-slot
returns-then-it-slot c =
    sym (position_or_len_is (λ t. eqb t c.args.slot) c.args.slots.now c.loop-index.index 0 (omega arith) c.loop-index.invariant (λ _. eq-eqb _ _ c.if-it-slot.true))

pub returns : goal.returns
returns c =
    let past : length c.args.slots.now ≤ c.loop-index.index = omega arith in
    sym (position_or_len_is (λ t. eqb t c.args.slot) c.args.slots.now (length c.args.slots.now) 0 (omega arith) (λ k below. c.loop-index.invariant k (omega arith)) (λ within. absurd (omega arith)))
