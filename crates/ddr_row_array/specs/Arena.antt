-- What contracts see of a list whose items never move.
use Rattle.std.specs.Prelude.{ℕ, List, refl}
use Rattle.std.specs.Coded.{Coded, code_by, coded×, coded_ℕ, coded_list}

-- the items, in order, and how many there is memory for
pub record Reserved (T : Type 0) : Type 0 where
  pub items : List T
  pub capacity : ℕ

abbrev pub reserved_code : {T : Type 0} → Coded T → Coded (Reserved T)
reserved_code {T} code =
    code_by (List T × ℕ) (coded× (coded_list code) coded_ℕ) (λ v. (v.items, v.capacity)) (λ p. record { items = p.0; capacity = p.1 }) (λ _. refl)
