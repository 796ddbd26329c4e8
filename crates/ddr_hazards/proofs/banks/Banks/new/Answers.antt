use Rattle.std.proofs.Common.{◌≡◌, ℕ, ◌<◌, ◌≤◌, [], length, get_or, ltb, ap, inl, inr, arith}
use Rattle.std.proofs.lemmas.Bool.{cases_Bool, ltb-true, ltb-false}
use Rattle.std.proofs.lemmas.List.{get_or_past}
use Rattle.arrayvec.specs.ArrayVec.{ArrayVec}
use Rattle.ddr_hazards.proofs.banks.Banks.new.Goals as goal

pub returns-clause-none : goal.returns-clause-none
returns-clause-none c = λ bank.
    let lists = c.default.result in
    let empty : ArrayVec ℕ = record { items = [] } in
    elim (cases_Bool (ltb bank 32)) [
      | inl low ↦ c.default.ensures.at bank empty (ltb-true bank 32 low)
      | inr high ↦
          let above : 32 ≤ bank = ltb-false bank 32 high in
          let past : length lists ≤ bank = omega (arith, above, c.default.ensures.long) in
          ap (λ v. v.items) (get_or_past lists bank empty past)
    ]
