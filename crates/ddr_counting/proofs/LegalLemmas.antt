-- The commands of a legal trace lie in the geometry, and there are no more of them than cycles.
use Rattle.std.proofs.Common.{◌≡◌, ℕ, zero, suc, ◌<◌, ◌≤◌, Bool, true, false, not, ◌&&◌, List, [], ◌∷◌, length, take, get_or, Option, Some, All, IsTrue, refl, subst, arith}
use Rattle.std.specs.List.{slice_get}
use Rattle.std.proofs.lemmas.Bool.{leb-true, ltb-true}
use Rattle.ddr_timing.specs.declared.config.Config.{Config}
use Rattle.ddr_trace.specs.declared.command.Entry.{Entry}
use Rattle.ddr_trace.specs.declared.rule.Rule.TheVariants as rule
use Rattle.ddr_trace.specs.Legality.{IsLegal, breaks_where}
use Rattle.ddr_trace.specs.Rules.{is_in, last_cycle_below}
use Rattle.ddr_statistics.specs.Debts.{IsInOrder}

found : (xs : List Entry) (k : ℕ) (d : Entry) → k < length xs → slice_get xs k ≡ Some (get_or xs k d)
found [] k d within = absurd (omega (arith, within))
found (x ∷ xs) zero d within = refl
found (x ∷ xs) (suc k) d within = found xs k d (omega (arith, within))

not_not : (b : Bool) → not b ≡ false → b ≡ true
not_not true is = refl
not_not false is = absurd (let impossible = is in cc)

pub all_placed : (c : Config) (start end : ℕ) (entries : List Entry) → IsLegal c start end entries → All (λ e. IsTrue (is_in c.geometry e.command)) entries
all_placed c start end entries legal = λ k d within.
    not_not (is_in c.geometry (get_or entries k d).command)
    (subst (λ (o : Option Entry). breaks_where c start end entries o k rule.Place ≡ false) (found entries k d within) (legal k rule.Place refl))

record InOrder (start end : ℕ) (entries : List Entry) (k : ℕ) (e : Entry) : Type 0 where
  behind : last_cycle_below (take k entries) e.cycle ≡ true
  from : start ≤ e.cycle
  before : e.cycle < end

three : (a b c : Bool) → (a && b && c) ≡ true → (a ≡ true) × (b ≡ true) × (c ≡ true)
three true true true is = (refl, refl, refl)
three true true false is = absurd (let impossible = is in cc)
three true false c is = absurd (let impossible = is in cc)
three false b c is = absurd (let impossible = is in cc)

in_order : (c : Config) (start end : ℕ) (entries : List Entry) → IsLegal c start end entries → (k : ℕ) (d : Entry) → k < length entries → InOrder start end entries k (get_or entries k d)
in_order c start end entries legal k d within =
    let keeps = subst (λ (o : Option Entry). breaks_where c start end entries o k rule.Order ≡ false) (found entries k d within) (legal k rule.Order refl) in
    let parts = three _ _ _ (not_not _ keeps) in
    record { behind = parts.0; from = leb-true _ _ parts.1; before = ltb-true _ _ parts.2 }

behind_last : (xs : List Entry) (k : ℕ) (d : Entry) (cycle : ℕ) → k < length xs → last_cycle_below (take (suc k) xs) cycle ≡ true → (get_or xs k d).cycle < cycle
behind_last [] k d cycle within is = absurd (omega (arith, within))
behind_last (a ∷ xs) zero d cycle within is = ltb-true _ _ is
behind_last (a ∷ []) (suc k) d cycle within is = absurd (omega (arith, within))
behind_last (a ∷ b ∷ xs) (suc k) d cycle within is = behind_last (b ∷ xs) k d cycle (omega (arith, within)) is

as_late : (c : Config) (start end : ℕ) (entries : List Entry) → IsLegal c start end entries → (k : ℕ) (d : Entry) → k < length entries → k ≤ (get_or entries k d).cycle
as_late c start end entries legal zero d within = omega arith
as_late c start end entries legal (suc k) d within =
    let later = behind_last entries k d (get_or entries (suc k) d).cycle (omega (arith, within)) (in_order c start end entries legal (suc k) d within).behind in
    omega (arith, later, as_late c start end entries legal k d (omega (arith, within)))

few_of : (c : Config) (start end : ℕ) (entries : List Entry) (n : ℕ) → length entries ≡ n → IsLegal c start end entries → n ≤ end
few_of c start end entries zero is legal = omega arith
few_of c start end [] (suc n) is legal = absurd (omega (arith, is))
few_of c start end (d ∷ more) (suc n) is legal =
    let last : n < length (d ∷ more) = omega (arith, is) in
    omega (arith, as_late c start end (d ∷ more) legal n d last, (in_order c start end (d ∷ more) legal n d last).before)

pub few_commands : (c : Config) (start end : ℕ) (entries : List Entry) → IsLegal c start end entries → length entries ≤ end
few_commands c start end entries legal = few_of c start end entries (length entries) refl legal

-- its cycles rise, and lie before its end

next_in_order : (end : ℕ) (entries : List Entry) → ((k : ℕ) (d : Entry) → k < length entries → (get_or entries k d).cycle < end)
    → ((k : ℕ) (d : Entry) → suc k < length entries → (get_or entries k d).cycle < (get_or entries (suc k) d).cycle) → IsInOrder end entries
next_in_order end [] before rises = tt
next_in_order end (e ∷ []) before rises = (before 0 e (omega arith), tt, tt)
next_in_order end (e ∷ f ∷ later) before rises = (
  before 0 e (omega arith),
  rises 0 e (omega arith),
  next_in_order end (f ∷ later) (λ k d within. before (suc k) d (omega (arith, within))) (λ k d within. rises (suc k) d (omega (arith, within))),
)

pub all_in_order : (c : Config) (start end : ℕ) (entries : List Entry) → IsLegal c start end entries → IsInOrder end entries
all_in_order c start end entries legal =
    next_in_order end entries (λ k d within. (in_order c start end entries legal k d within).before)
    (λ k d within. behind_last entries k d (get_or entries (suc k) d).cycle (omega (arith, within)) (in_order c start end entries legal (suc k) d within).behind)
