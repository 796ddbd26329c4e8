-- To lie in one line of a channel is an equivalence of places.
use Rattle.std.proofs.Common.{◌≡◌, ℕ, true, ◌&&◌, arith}
use Rattle.std.proofs.lemmas.Bool.{and_parts, eqb-true}
use Rattle.std.specs.Prelude.{◌==◌}
use Rattle.ddr_address_map.specs.declared.place.Place.{Place}
use Rattle.ddr_hazards.specs.Hazards.{is_same_line}

pub record SameLine (a b : Place) : Type 0 where
  pub rank : a.rank ≡ b.rank
  pub group : a.group ≡ b.group
  pub bank : a.bank ≡ b.bank
  pub row : a.row ≡ b.row
  pub line : a.line ≡ b.line

pub same_line : (a b : Place) → is_same_line a b ≡ true → SameLine a b
same_line a b same =
    let all = and_parts (a.rank == b.rank) (a.group == b.group && (a.bank == b.bank && (a.row == b.row && a.line == b.line))) same in
    let first = and_parts (a.group == b.group) (a.bank == b.bank && (a.row == b.row && a.line == b.line)) all.1 in
    let second = and_parts (a.bank == b.bank) (a.row == b.row && a.line == b.line) first.1 in
    let third = and_parts (a.row == b.row) (a.line == b.line) second.1 in record {
      rank = eqb-true a.rank b.rank all.0;
      group = eqb-true a.group b.group first.0;
      bank = eqb-true a.bank b.bank second.0;
      row = eqb-true a.row b.row third.0;
      line = eqb-true a.line b.line third.1;
    }

-- places in one line share their line with the same places
pub same_line-congr : (x a b : Place) → is_same_line a b ≡ true → is_same_line x a ≡ is_same_line x b
same_line-congr x a b same =
    let at = same_line a b same in
    λ i. x.rank == at.rank i && (x.group == at.group i && (x.bank == at.bank i && (x.row == at.row i && x.line == at.line i)))

eqb_comm : (m n : ℕ) → (m == n) ≡ (n == m)
eqb_comm m n = grind arith

pub same_line-comm : (a b : Place) → is_same_line a b ≡ is_same_line b a
same_line-comm a b =
    λ i. eqb_comm a.rank b.rank i && (eqb_comm a.group b.group i && (eqb_comm a.bank b.bank i && (eqb_comm a.row b.row i && eqb_comm a.line b.line i)))
