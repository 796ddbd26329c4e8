-- That the bound which is told of a percentile is that of the class in which the percentile stands.
use Rattle.std.proofs.Common.{◌≡◌, ◌≢◌, ◌<◌, ◌≤◌, ℕ, suc, ◌+◌, ◌-◌, ◌*◌, ◌^◌, Bool, true, false, cond, ◌&&◌, leb, ltb, eqb, List, [], ◌∷◌, length, fold, get_or, set, refl, sym, subst, ap, ◌∙◌, arith}
use Rattle.std.specs.Prelude.{count_by, min}
use Rattle.std.proofs.lemmas.Bool.{eq-eqb, eqb-true, le-leb, lt-ltb, ltb-false, ltb-true}
use Rattle.std.proofs.Math.Nat.{mul-le-mul_right}
use Rattle.std.proofs.lemmas.List.{get_or-replicate, get_or-set_other, get_or-set_same}
use Rattle.std.proofs.lemmas.List.Sums.{get_or-le-sum_by, sum_by-cons}
use Rattle.ddr_measure.specs.Distributions.{bound_from, bound_of, class_of, first_of, last_of, no_distribution, with_value}
use Rattle.ddr_measure.specs.Groups.{distribution_of, holds, noted}
use Rattle.ddr_measure.specs.Percentiles.{IsPercentile, took}
use Rattle.ddr_measure.specs.Spans.{clocks_of}
use Rattle.ddr_measure.specs.Sums.{AreHeld}
use Rattle.ddr_measure.specs.declared.distribution.Distribution.{Distribution}
use Rattle.ddr_measure.specs.declared.group.Group.{Group}
use Rattle.ddr_measure.specs.declared.span.Span.{Span}
use Rattle.ddr_measure.specs.declared.timed.Timed.{Timed}
use Rattle.ddr_measure.proofs.BandLemmas.{exact_below, first_last, first_up, inside, last_up, narrow}
use Rattle.ddr_measure.proofs.SumLemmas.{IsWhole, adds_up, class_within, classes_many, none_whole, request_whole}

-- ---- how many pass a test

one_more : (b : Bool) → cond b 1 0 ≤ 1
one_more true = omega arith
one_more false = omega arith

count_cons : (test : Timed → Bool) (r : Timed) (more : List Timed) → count_by test (r ∷ more) ≡ cond (test r) 1 0 + count_by test more
count_cons test r more = sum_by-cons (λ (x : Timed). cond (test x) 1 0) r more

abbrev bit : Bool → ℕ
bit b = cond b 1 0

cond_le : (a b : Bool) → (a ≡ true → b ≡ true) → cond a 1 0 ≤ cond b 1 0
cond_le true true k = omega arith
cond_le true false k = absurd (let on = k refl in cc)
cond_le false true k = omega arith
cond_le false false k = omega arith

both : (a b : Bool) → (a && b) ≡ true → (a ≡ true) × (b ≡ true)
both true true is = (refl, refl)
both true false is = cc
both false b is = cc

and_on : (a b c : Bool) → (b ≡ true → c ≡ true) → (a && b) ≡ true → (a && c) ≡ true
and_on true b c k is = k is
and_on false b c k is = cc

module _ (group : Group) (span : Span) where
  -- more pass a weaker test
  pub took_more : (f g : ℕ → Bool) → ((v : ℕ) → v < 2 ^ 64 → f v ≡ true → g v ≡ true) → (requests : List Timed) → AreHeld span requests → took group span f requests ≤ took group span g requests
  took_more f g weaker [] held = omega arith
  took_more f g weaker (r ∷ more) held =
      let v = clocks_of span r in
      let one = count_cons (λ x. holds group x && f (clocks_of span x)) r more in
      let other = count_cons (λ x. holds group x && g (clocks_of span x)) r more in
      let here = cond_le (holds group r && f v) (holds group r && g v) (and_on (holds group r) (f v) (g v) (weaker v held.0)) in
      let rest = took_more f g weaker more held.1 in
      omega (arith, one, other, here, rest)

  -- all pass a test that holds
  all_took : (f : ℕ → Bool) → ((v : ℕ) → v < 2 ^ 64 → f v ≡ true) → (requests : List Timed) → AreHeld span requests → took group span f requests ≡ count_by (holds group) requests
  all_took f always [] held = refl
  all_took f always (r ∷ more) held =
      let v = clocks_of span r in
      let one = count_cons (λ x. holds group x && f (clocks_of span x)) r more in
      let other = count_cons (holds group) r more in
      let here : bit (holds group r && f v) ≡ bit (holds group r) = ap bit (ap (λ b. holds group r && b) (always v held.0) ∙ and_true (holds group r)) in
      let rest = all_took f always more held.1 in
      omega (arith, one, other, here, rest)
    where
      and_true : (b : Bool) → (b && true) ≡ b
      and_true true = refl
      and_true false = refl

  none_took : (f : ℕ → Bool) → ((v : ℕ) → f v ≡ false) → (requests : List Timed) → took group span f requests ≡ 0
  none_took f never [] = refl
  none_took f never (r ∷ more) =
      let v = clocks_of span r in
      let one = count_cons (λ x. holds group x && f (clocks_of span x)) r more in
      let here : bit (holds group r && f v) ≡ bit false = ap bit (ap (λ b. holds group r && b) (never v) ∙ and_false (holds group r)) in
      let rest = none_took f never more in
      omega (arith, one, here, rest)
    where
      and_false : (b : Bool) → (b && false) ≡ false
      and_false true = refl
      and_false false = refl

  -- two tests of which never both hold
  took_both : (f g h : ℕ → Bool) → ((v : ℕ) → cond (h v) 1 0 ≡ cond (f v) 1 0 + cond (g v) 1 0) → (requests : List Timed) → took group span h requests ≡ took group span f requests + took group span g requests
  took_both f g h parted [] = refl
  took_both f g h parted (r ∷ more) =
      let v = clocks_of span r in
      let one = count_cons (λ x. holds group x && f (clocks_of span x)) r more in
      let two = count_cons (λ x. holds group x && g (clocks_of span x)) r more in
      let all = count_cons (λ x. holds group x && h (clocks_of span x)) r more in
      let here = shared (holds group r) (h v) (f v) (g v) (parted v) in
      let rest = took_both f g h parted more in
      omega (arith, one, two, all, here, rest)
    where
      shared : (b x y z : Bool) → cond x 1 0 ≡ cond y 1 0 + cond z 1 0 → cond (b && x) 1 0 ≡ cond (b && y) 1 0 + cond (b && z) 1 0
      shared true x y z is = is
      shared false x y z is = omega arith

  -- ---- by classes

  -- those of lower classes, and those of a class
  abbrev lower : ℕ → List Timed → ℕ
  lower class requests = took group span (λ v. ltb (class_of v) class) requests

  abbrev alike : ℕ → List Timed → ℕ
  alike class requests = took group span (λ v. eqb class (class_of v)) requests

  next_lower : (class : ℕ) (requests : List Timed) → lower (class + 1) requests ≡ lower class requests + alike class requests
  next_lower class requests = took_both (λ v. ltb (class_of v) class) (λ v. eqb class (class_of v)) (λ v. ltb (class_of v) (class + 1)) (λ v. parted (class_of v)) requests
    where
      parted : (k : ℕ) → cond (ltb k (class + 1)) 1 0 ≡ cond (ltb k class) 1 0 + cond (eqb class k) 1 0
      parted k = go (ltb k (class + 1)) (ltb k class) (eqb class k) refl refl refl
        where
          go : (a b c : Bool) → ltb k (class + 1) ≡ a → ltb k class ≡ b → eqb class k ≡ c → cond a 1 0 ≡ cond b 1 0 + cond c 1 0
          go true true true x y z = let less = ltb-true k class y in let same = eqb-true class k z in absurd (omega (arith, less, same))
          go true true false x y z = omega arith
          go true false true x y z = omega arith
          go true false false x y z =
              let less = ltb-true k (class + 1) x in
              let not_less = ltb-false k class y in
              let on = eq-eqb class k (omega (arith, less, not_less)) in
              absurd (let both = sym on ∙ z in cc)
          go false true c x y z = let less = ltb-true k class y in let not_less = ltb-false k (class + 1) x in absurd (omega (arith, less, not_less))
          go false false true x y z = let same = eqb-true class k z in let not_less = ltb-false k (class + 1) x in absurd (omega (arith, same, not_less))
          go false false false x y z = omega arith

  no_lower : (requests : List Timed) → lower 0 requests ≡ 0
  no_lower requests = none_took (λ v. ltb (class_of v) 0) (λ v. off (class_of v)) requests
    where
      off : (k : ℕ) → ltb k 0 ≡ false
      off k = go (ltb k 0) refl
        where
          go : (b : Bool) → ltb k 0 ≡ b → ltb k 0 ≡ false
          go true is = let less = ltb-true k 0 is in absurd (omega (arith, less))
          go false is = is

  -- ---- each class has its own

  value_alike : (i value : ℕ) (spread : Distribution) → value < 2 ^ 64 → spread.count + 1 < 2 ^ 64 → IsWhole spread
      → get_or (with_value value spread).classes i 0 ≡ get_or spread.classes i 0 + cond (eqb i (class_of value)) 1 0
  unfolding with_value
  value_alike i value spread held few whole = go (eqb i k) refl
    where
      k : ℕ
      k = class_of value

      within : k < length spread.classes
      within = subst (λ n. k < n) (sym whole.many) (class_within value held)

      before : ℕ
      before = get_or spread.classes k 0

      small : before ≤ spread.count
      small = subst (λ n. before ≤ n) whole.classes (get_or-le-sum_by (λ n. n) spread.classes k 0 within)

      more : min (before + 1) (2 ^ 64 - 1) ≡ before + 1
      more = omega (arith, small, few)

      go : (b : Bool) → eqb i k ≡ b → get_or (set spread.classes k (min (before + 1) (2 ^ 64 - 1))) i 0 ≡ get_or spread.classes i 0 + cond b 1 0
      go true is =
          let same = eqb-true i k is in
          ap (λ j. get_or (set spread.classes k (min (before + 1) (2 ^ 64 - 1))) j 0) same ∙ get_or-set_same spread.classes k _ 0 within ∙ more ∙ ap (λ j. get_or spread.classes j 0 + 1) (sym same)
      go false is =
          let other : i ≢ k = λ same. absurd (let on = eq-eqb i k same in let both = sym on ∙ is in cc) in
          get_or-set_other spread.classes k i _ 0 other ∙ omega arith

  request_alike : (i : ℕ) (spread : Distribution) (r : Timed) → clocks_of span r < 2 ^ 64 → spread.count + 1 < 2 ^ 64 → IsWhole spread
      → get_or (noted group span spread r).classes i 0 ≡ get_or spread.classes i 0 + cond (holds group r && eqb i (class_of (clocks_of span r))) 1 0
  request_alike i spread r held few whole = go (holds group r)
    where
      go : (b : Bool) → get_or (cond b (with_value (clocks_of span r) spread) spread).classes i 0 ≡ get_or spread.classes i 0 + cond (b && eqb i (class_of (clocks_of span r))) 1 0
      go true = value_alike i (clocks_of span r) spread held few whole
      go false = omega arith

  all_alike : (i : ℕ) (requests : List Timed) (spread : Distribution) → spread.count + length requests < 2 ^ 64 → AreHeld span requests → IsWhole spread
      → get_or (fold (noted group span) spread requests).classes i 0 ≡ get_or spread.classes i 0 + alike i requests
  all_alike i [] spread few held whole = omega arith
  all_alike i (r ∷ more) spread few held whole =
      let one = request_whole group span spread r held.0 (omega (arith, few)) whole in
      let less = one_more (holds group r) in
      let rest = all_alike i more (noted group span spread r) (omega (arith, few, one.1, less)) held.1 one.0 in
      let here = request_alike i spread r held.0 (omega (arith, few)) whole in
      let counted = count_cons (λ x. holds group x && eqb i (class_of (clocks_of span x))) r more in
      rest ∙ omega (arith, here, counted)

  pub each_alike : (i : ℕ) (requests : List Timed) → i < 496 → length requests < 2 ^ 64 → AreHeld span requests → get_or (distribution_of group span requests).classes i 0 ≡ alike i requests
  each_alike i requests within few held =
      let all = all_alike i requests no_distribution (omega (arith, few)) held none_whole in
      let nothing : get_or no_distribution.classes i 0 ≡ 0 = get_or-replicate 496 i 0 0 within in
      omega (arith, all, nothing)

  -- ---- the class of the percentile

  record IsFound (requests : List Timed) (wanted bound : ℕ) : Type 0 where
    class : ℕ
    is : bound ≡ last_of class
    fewer : 1000 * lower class requests < wanted
    enough : wanted ≤ 1000 * lower (class + 1) requests

  walk : (requests : List Timed) (wanted seen class : ℕ) (counts : List ℕ) → ((j : ℕ) → j < length counts → get_or counts j 0 ≡ alike (class + j) requests) → seen ≡ lower class requests
      → 1000 * lower class requests < wanted → wanted ≤ 1000 * lower (class + length counts) requests → IsFound requests wanted (bound_from wanted seen class counts)
  walk requests wanted seen class [] each is fewer enough =
      let same : lower (class + 0) requests ≡ lower class requests = ap (λ c. lower c requests) (omega arith) in
      absurd (omega (arith, fewer, enough, same))
  walk requests wanted seen class (n ∷ more) each is fewer enough =
      go (ltb (1000 * (seen + n)) wanted) refl
      (λ less. walk requests wanted (seen + n) (class + 1) more (λ j within. each (suc j) (omega (arith, within)) ∙ ap (λ c. alike c requests) (shift j)) next
      (subst (λ m. 1000 * m < wanted) next less)
      (subst (λ c. wanted ≤ 1000 * lower c requests) (shift (length more)) enough))
    where
      next : seen + n ≡ lower (class + 1) requests
      next = let here : n ≡ alike class requests = each 0 (omega arith) ∙ ap (λ c. alike c requests) (omega arith) in let step = next_lower class requests in omega (arith, is, here, step)

      shift : (j : ℕ) → class + suc j ≡ class + 1 + j
      shift j = omega arith

      go : (b : Bool) → ltb (1000 * (seen + n)) wanted ≡ b → (1000 * (seen + n) < wanted → IsFound requests wanted (bound_from wanted (seen + n) (class + 1) more))
          → IsFound requests wanted (cond b (bound_from wanted (seen + n) (class + 1) more) (last_of class))
      go true less on = on (ltb-true (1000 * (seen + n)) wanted less)
      go false not_less on = record {
        class = class;
        is = refl;
        fewer = fewer;
        enough = subst (λ m. wanted ≤ 1000 * m) next (ltb-false (1000 * (seen + n)) wanted not_less);
      }

  -- what stands below a class's first number is of a lower class, and what is of none above doesn't pass its last
  below_first : (class v : ℕ) → v < 2 ^ 64 → ltb v (first_of class) ≡ true → ltb (class_of v) class ≡ true
  below_first class v held is = go (ltb (class_of v) class) refl
    where
      go : (b : Bool) → ltb (class_of v) class ≡ b → b ≡ true
      go true on = refl
      go false off =
          let under = ltb-true v (first_of class) is in
          let up = first_up class (class_of v) (ltb-false (class_of v) class off) in
          let here = (inside v held).from in
          absurd (omega (arith, under, up, here))

  within_last : (class v : ℕ) → v < 2 ^ 64 → ltb (class_of v) (class + 1) ≡ true → leb v (last_of class) ≡ true
  within_last class v held is =
      let less = ltb-true (class_of v) (class + 1) is in
      let up = last_up (class_of v) class (omega (arith, less)) in
      let here = (inside v held).to in
      le-leb v (last_of class) (omega (arith, up, here))

pub percentile : (thousandths : ℕ) (group : Group) (span : Span) (requests : List Timed) → length requests < 2 ^ 64 → AreHeld span requests → 0 < thousandths * count_by (holds group) requests → thousandths ≤ 1000
    → IsPercentile thousandths group span requests (bound_of thousandths (distribution_of group span requests))
percentile thousandths group span requests few held some thousand =
    let spread = distribution_of group span requests in
    let whole = adds_up group span requests few held in
    let wanted = thousandths * spread.count in
    let wanted_is : wanted ≡ thousandths * count_by (holds group) requests = ap (λ n. thousandths * n) whole.count in
    let many = classes_many group span requests few held in
    let all : lower group span (0 + length spread.classes) requests ≡ count_by (holds group) requests =
    ap (λ n. lower group span (0 + n) requests) many ∙ all_took group span (λ v. ltb (class_of v) (0 + 496)) (λ v fits. lt-ltb (class_of v) (0 + 496) (class_within v fits)) requests held in
    let most : thousandths * count_by (holds group) requests ≤ 1000 * count_by (holds group) requests = mul-le-mul_right {m = thousandths} {n = 1000} (count_by (holds group) requests) thousand in
    let none = no_lower group span requests in
    let found = walk group span requests wanted 0 0 spread.classes
    (λ j within. each_alike group span j requests (subst (λ n. j < n) many within) few held ∙ ap (λ c. alike group span c requests) (omega arith))
    (sym none)
    (omega (arith, none, some, wanted_is))
    (omega (arith, wanted_is, most, all)) in
    subst (IsPercentile thousandths group span requests) (sym found.is) (record {
      enough =
          let more = took_more group span (λ v. ltb (class_of v) (found.class + 1)) (λ v. leb v (last_of found.class)) (within_last group span found.class) requests held in
          omega (arith, more, found.enough, wanted_is);
      first = first_of found.class;
      fewer =
          let less = took_more group span (λ v. ltb v (first_of found.class)) (λ v. ltb (class_of v) found.class) (below_first group span found.class) requests held in
          omega (arith, less, found.fewer, wanted_is);
      below = first_last found.class;
      near = narrow found.class;
      exact = exact_below found.class;
    })
