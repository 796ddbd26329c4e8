-- The entries that are known to break no rule, one more each time.
use Rattle.std.proofs.Common.{◌≡◌, ℕ, ◌+◌, ◌<◌, ◌≤◌, ◌⊎◌, inl, inr, Bool, true, false, ◌&&◌, List, [], ◌∷◌, ◌++◌, length, take, get_or, Option, Some, None, refl, sym, ap, ap₂, ◌∙◌, arith}
use Rattle.std.specs.List.{slice_get}
use Rattle.std.specs.Option.{is_none}
use Rattle.std.proofs.lemmas.Bool.{cases_lt, false≢true}
use Rattle.std.proofs.lemmas.List.{get_or_append_left, get_or_push, length_push, take_more}
use Rattle.std.proofs.lemmas.Option.{slice_get-get_or, slice_get_within}
use Rattle.ddr_timing.specs.declared.config.Config.{Config}
use Rattle.ddr_timing.specs.declared.geometry.Geometry.{Geometry}
use Rattle.ddr_trace.specs.declared.command.Entry.{Entry}
use Rattle.ddr_trace.specs.declared.rule.Rule.{Rule}
use Rattle.ddr_trace.specs.Rules.{breaks, is_in, last_cycle_below}
use Rattle.ddr_trace.specs.Legality.{breaks_at, breaks_where, lowest_rule}
use Rattle.ddr_trace.proofs.LowestLemmas.{none_broken}
use Rattle.ddr_legality.specs.declared.one_pass.Checker.{Checker}
use Rattle.ddr_legality.specs.Followed.{AreFollowed}
use Rattle.ddr_legality.specs.OnePass.{HasPassed}

-- what the flags of so many entries say
pub record FlagsSoFar (c : Config) (start end : ℕ) (entries : List Entry) (flags : List Bool) (i : ℕ) : Type 0 where
  pub each : length flags ≡ i
  pub kept : (place : ℕ) (r : Rule) → slice_get flags place ≡ Some true → breaks_at c start end entries place r ≡ false
  pub known : (place : ℕ) → place < i → AreFollowed c.geometry entries place → slice_get flags place ≡ Some (is_none (lowest_rule (breaks_at c start end entries place)))

none_lowest : (o : Option Rule) → is_none o ≡ true → o ≡ None
none_lowest None e = refl
none_lowest (Some r) e = cc

-- the flag of an entry, of which all is known or nothing
module _ (c : Config) (start end : ℕ) (entries : List Entry) (flags : List Bool) (i : ℕ) (d : Entry) (followed flag : Bool) (within : i < length entries) (so_far : FlagsSoFar c start end entries flags i) (known : followed ≡ true → flag ≡ is_none (lowest_rule (λ r. breaks c start end r (take i entries) (get_or entries i d)))) (unknown : followed ≡ false → flag ≡ false) (rising : AreFollowed c.geometry entries i → followed ≡ true) where
  there : followed ≡ true → flag ≡ is_none (lowest_rule (breaks_at c start end entries i))
  there is = known is ∙ ap (λ o. is_none (lowest_rule (λ r. breaks_where c start end entries o i r))) (sym (slice_get-get_or entries i d within))

  kept_there : (w : Bool) → followed ≡ w → flag ≡ true → (r : Rule) → breaks_at c start end entries i r ≡ false
  kept_there false not passes r = absurd (false≢true (sym (unknown not) ∙ passes))
  kept_there true is passes r = none_broken (breaks_at c start end entries i) (none_lowest _ (sym (there is) ∙ passes)) r

  at_last : slice_get (flags ++ flag ∷ []) i ≡ Some flag
  at_last = slice_get-get_or (flags ++ flag ∷ []) i flag (omega (arith, length_push flags flag, so_far.each)) ∙ ap (λ b. Some b) (get_or_push flags flag flag i so_far.each)

  before_last : (place : ℕ) → place < i → slice_get (flags ++ flag ∷ []) place ≡ slice_get flags place
  before_last place below =
      let inside : place < length flags = omega (arith, so_far.each) in
      slice_get-get_or (flags ++ flag ∷ []) place flag (omega (arith, length_push flags flag))
      ∙ ap (λ b. Some b) (get_or_append_left flags (flag ∷ []) flag place inside)
      ∙ sym (slice_get-get_or flags place flag inside)

  pub flags_more : FlagsSoFar c start end entries (flags ++ flag ∷ []) (i + 1)
  flags_more = record {
    each = omega (arith, length_push flags flag, so_far.each);
    kept = λ place r is. kept_at place r is (cases_lt place i);
    known = λ place below before. known_at place below before (cases_lt place i);
  }
    where
      same_flag : (a b : Bool) → Some a ≡ Some b → a ≡ b
      same_flag a b e = cc

      kept_at : (place : ℕ) (r : Rule) → slice_get (flags ++ flag ∷ []) place ≡ Some true → (place < i) ⊎ (i ≤ place) → breaks_at c start end entries place r ≡ false
      kept_at place r is (inl below) = so_far.kept place r (sym (before_last place below) ∙ is)
      kept_at place r is (inr above) =
          let same : place ≡ i = omega (arith, slice_get_within (flags ++ flag ∷ []) place true is, length_push flags flag, so_far.each) in
          let passes : flag ≡ true = same_flag flag true (sym at_last ∙ ap (slice_get (flags ++ flag ∷ [])) (sym same) ∙ is) in
          ap (λ p. breaks_at c start end entries p r) same ∙ kept_there followed refl passes r

      known_at : (place : ℕ) → place < i + 1 → AreFollowed c.geometry entries place → (place < i) ⊎ (i ≤ place) → slice_get (flags ++ flag ∷ []) place ≡ Some (is_none (lowest_rule (breaks_at c start end entries place)))
      known_at place more before (inl below) = before_last place below ∙ so_far.known place below before
      known_at place more before (inr above) =
          let same : place ≡ i = omega arith in
          let here : AreFollowed c.geometry entries i = rw same at before in
          ap (slice_get (flags ++ flag ∷ [])) same ∙ at_last ∙ ap (λ b. Some b) (there (rising here))
          ∙ ap (λ p. Some (is_none (lowest_rule (breaks_at c start end entries p)))) (sym same)

-- where the entries before the next one are followed, so are those before this one, and this one
pub follows_here : (g : Geometry) (entries : List Entry) (i : ℕ) (d : Entry) → i < length entries → AreFollowed g entries (i + 1) → (is_in g (get_or entries i d).command && last_cycle_below (take i entries) (get_or entries i d).cycle) ≡ true
follows_here g entries i d within followed =
    let here = followed i (get_or entries i d) (omega arith) (slice_get-get_or entries i d within) in
    ap₂ ◌&&◌ here.0 here.1

pub follows_before : (g : Geometry) (entries : List Entry) (i : ℕ) → AreFollowed g entries (i + 1) → AreFollowed g entries i
follows_before g entries i followed = λ before e below there. followed before e (omega arith) there

pub passed_more : (s : Checker) (entries : List Entry) (place : ℕ) (d : Entry) → place < length entries → HasPassed s (take place entries ++ get_or entries place d ∷ []) → HasPassed s (take (place + 1) entries)
passed_more s entries place d within passed = rw (take_more entries place d within) passed
