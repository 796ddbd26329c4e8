-- The table is held against the definition at each of the 256 bytes, by computing.
use Rattle.std.proofs.Common.{◌≡◌, ℕ, zero, suc, ◌<◌, ◌==◌, Bool, true, ◌&&◌, unwrap_or, get_or, List, refl, arith, inl, inr}
use Rattle.std.proofs.lemmas.Bool.{and_parts, cases_eq, eqb-true}
use Rattle.hex.specs.Hex.{hex_digit_value}
use Rattle.ddr_text.specs.declared.hexadecimal.TheConstants.{VALUES}
use Rattle.ddr_text.proofs.hexadecimal.value_of.Goals as goal

-- whether the table has each value that it should, below n
agrees_below : List ℕ → ℕ → Bool
agrees_below table zero = true
agrees_below table (suc n) = (get_or table n 0 == unwrap_or (hex_digit_value n) 256) && agrees_below table n

agrees_at : (table : List ℕ) (n byte : ℕ) → agrees_below table n ≡ true → byte < n → get_or table byte 0 ≡ unwrap_or (hex_digit_value byte) 256
unfolding agrees_below
agrees_at table zero byte agrees below = absurd (omega arith)
agrees_at table (suc n) byte agrees below =
    let parts = and_parts (get_or table n 0 == unwrap_or (hex_digit_value n) 256) (agrees_below table n) agrees in
    elim (cases_eq byte n) [
      | inl same ↦ rw same (eqb-true _ _ parts.0)
      | inr other ↦ agrees_at table n byte parts.1 (omega arith)
    ]

pub returns : goal.returns
unfolding agrees_below
returns c = agrees_at VALUES 256 c.args.byte refl (omega arith)
