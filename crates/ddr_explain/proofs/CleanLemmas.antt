-- A trace without a fault at any place.
use Rattle.std.proofs.Common.{◌≡◌, ℕ, zero, suc, ◌+◌, ◌<◌, ◌≤◌, ◌⊎◌, inl, inr, Bool, true, false, List, [], ◌∷◌, ◌++◌, length, map, Option, Some, None, refl, sym, ap, ◌∙◌, add-zero, zero-add, arith}
use Rattle.std.specs.Prelude.{◌↔◌, ◌==◌, IsTrue, flat_map}
use Rattle.std.specs.List.{All, filter, find, range_with_len}
use Rattle.std.proofs.lemmas.Bool.{cases_lt, eqb-true}
use Rattle.std.proofs.lemmas.Bool.Decides.{nat_tests}
use Rattle.std.proofs.lemmas.List.Elements.{All-append, All-map, All-nil, All-take, filter_passes}
use Rattle.std.proofs.lemmas.Option.{slice_get_past}
use Rattle.ddr_timing.specs.declared.config.Config.{Config}
use Rattle.ddr_trace.specs.declared.checker.Fault.{Fault}
use Rattle.ddr_trace.specs.declared.command.Entry.{Entry}
use Rattle.ddr_trace.specs.declared.rule.Rule.{Rule}
use Rattle.ddr_trace.specs.declared.rule.TheConstants.Rule.{ALL}
use Rattle.ddr_trace.specs.Legality.{IsLegal, IsRefreshed, breaks_at, lowest_rule}
use Rattle.ddr_trace.specs.Rules.{is_on_commands}
use Rattle.ddr_trace.proofs.LowestLemmas.{none_broken}
use Rattle.ddr_explain.specs.AllFaults.{all_faults, fault_at, faults_at, told_of}
use Rattle.ddr_explain.proofs.AllLemmas.{filter_empty}

-- ---- what is told is broken

All-flat_map : {X Y : Type 0} (P : Y → Type 0) (f : X → List Y) → ((x : X) → All P (f x)) → (xs : List X) → All P (flat_map f xs)
All-flat_map P f each [] = All-nil P
All-flat_map P f each (x ∷ xs) = All-append P (f x) (flat_map f xs) (each x) (All-flat_map P f each xs)

abbrev IsBroken : Config → ℕ → ℕ → List Entry → Fault → Type 0
IsBroken c start end entries fault = breaks_at c start end entries fault.place fault.rule ≡ true

all_broken : (c : Config) (start end : ℕ) (entries : List Entry) → All (λ fault. breaks_at c start end entries fault.place fault.rule ≡ true) (all_faults c start end entries)
unfolding all_faults
all_broken c start end entries =
    All-flat_map (IsBroken c start end entries) (faults_at c start end entries)
    (λ place. All-map (IsBroken c start end entries) (fault_at place) (filter (breaks_at c start end entries place) ALL) (filter_passes (breaks_at c start end entries place) ALL))
    (range_with_len 0 (length entries + 1))

pub told_broken : (c : Config) (start end : ℕ) (entries : List Entry) (most : Option ℕ) → All (λ fault. breaks_at c start end entries fault.place fault.rule ≡ true) (told_of most (all_faults c start end entries))
told_broken c start end entries None = all_broken c start end entries
told_broken c start end entries (Some n) = All-take (IsBroken c start end entries) n (all_faults c start end entries) (all_broken c start end entries)

-- ---- where nothing is told, nothing is broken

both_empty : {X : Type 0} (xs ys : List X) → xs ++ ys ≡ [] → (xs ≡ []) × (ys ≡ [])
both_empty [] ys e = (refl, e)
both_empty (x ∷ xs) ys e = cc

none_told : {X : Type 0} (f : ℕ → List X) (a n : ℕ) → flat_map f (range_with_len a n) ≡ [] → (k : ℕ) → k < n → f (a + k) ≡ []
none_told f a zero e k below = absurd (omega arith)
none_told f a (suc n) e zero below = rw add-zero ((both_empty (f a) (flat_map f (range_with_len (a + 1) n)) e).0)
none_told f a (suc n) e (suc k) below =
    let next : a + 1 + k ≡ a + suc k = omega arith in
    sym (ap f next) ∙ none_told f (a + 1) n ((both_empty (f a) (flat_map f (range_with_len (a + 1) n)) e).1) k (omega arith)

none_mapped : {X Y : Type 0} (f : X → Y) (xs : List X) → map f xs ≡ [] → xs ≡ []
none_mapped f [] e = refl
none_mapped f (x ∷ xs) e = cc

none_passes : {X : Type 0} (p : X → Bool) (xs : List X) → filter p xs ≡ [] → find p xs ≡ None
none_passes p [] e = refl
none_passes p (x ∷ xs) e = by_test (p x) refl (none_passes p xs)
  where
    by_test : (w : Bool) → p x ≡ w → (filter p xs ≡ [] → find p xs ≡ None) → find p (x ∷ xs) ≡ None
    by_test true is rest = let kept : x ∷ filter p xs ≡ [] = rw is at e in cc
    by_test false is rest = rw is (rest (rw is at e))

none_of_rules : (test : Rule → Bool) → filter test ALL ≡ [] → lowest_rule test ≡ None
unfolding lowest_rule
none_of_rules test e = none_passes test ALL e

behind_end : (c : Config) (start end : ℕ) (entries : List Entry) (place : ℕ) (r : Rule) → length entries < place → breaks_at c start end entries place r ≡ false
behind_end c start end entries place r behind = rw (slice_get_past entries place (omega arith)) (grind (arith, nat_tests))

unbroken : (c : Config) (start end : ℕ) (entries : List Entry) → all_faults c start end entries ≡ [] → (place : ℕ) (r : Rule) → breaks_at c start end entries place r ≡ false
unfolding all_faults
unbroken c start end entries e place r = by_place (cases_lt place (length entries + 1))
  where
    by_place : (place < length entries + 1) ⊎ (length entries + 1 ≤ place) → breaks_at c start end entries place r ≡ false
    by_place (inl within) =
        none_broken (breaks_at c start end entries place) (none_of_rules (breaks_at c start end entries place)
        (none_mapped (fault_at place) (filter (breaks_at c start end entries place) ALL) (sym (ap (faults_at c start end entries) (zero-add place)) ∙ none_told (faults_at c start end entries) 0 (length entries + 1) e place within))) r
    by_place (inr past) = behind_end c start end entries place r (omega arith)

pub clean_of : (c : Config) (start end : ℕ) (entries : List Entry) → all_faults c start end entries ≡ [] → IsLegal c start end entries × IsRefreshed c start end entries
clean_of c start end entries e = (λ place r on. unbroken c start end entries e place r, λ place r off. unbroken c start end entries e place r)

-- ---- and where nothing is broken, nothing is told

flat_map_empty : {X Y : Type 0} (f : X → List Y) (xs : List X) → ((x : X) → f x ≡ []) → flat_map f xs ≡ []
flat_map_empty f [] none = refl
flat_map_empty f (x ∷ xs) none = rw (none x) (flat_map_empty f xs none)

pub none_of : (c : Config) (start end : ℕ) (entries : List Entry) → IsLegal c start end entries × IsRefreshed c start end entries → all_faults c start end entries ≡ []
unfolding all_faults
none_of c start end entries clean =
    flat_map_empty (faults_at c start end entries) (range_with_len 0 (length entries + 1))
    (λ place. ap (map (fault_at place)) (filter_empty (breaks_at c start end entries place) ALL (λ r. by_kind place r (is_on_commands r) refl)))
  where
    by_kind : (place : ℕ) (r : Rule) (w : Bool) → is_on_commands r ≡ w → breaks_at c start end entries place r ≡ false
    by_kind place r true on = clean.0 place r on
    by_kind place r false off = clean.1 place r off

-- it is told whether there is none
no_elements : {X : Type 0} (xs : List X) → (length xs == 0) ≡ true → xs ≡ []
no_elements [] e = refl
no_elements (x ∷ xs) e = let more : suc (length xs) ≡ 0 = eqb-true (suc (length xs)) 0 e in absurd (omega arith)

pub legal_of : (c : Config) (start end : ℕ) (entries : List Entry) (faults : List Fault) (b : Bool) → faults ≡ all_faults c start end entries → b ≡ (length faults == 0) → IsTrue b ↔ (IsLegal c start end entries × IsRefreshed c start end entries)
legal_of c start end entries faults b same told =
    (λ empty. clean_of c start end entries (sym same ∙ no_elements faults (sym told ∙ empty)), λ clean. told ∙ ap (λ fs. length fs == 0) (same ∙ none_of c start end entries clean))
