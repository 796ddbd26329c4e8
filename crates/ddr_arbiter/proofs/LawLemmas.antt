-- Every choice is lawful.
use Rattle.std.proofs.Common.{◌≡◌, ℕ, zero, suc, ◌+◌, ◌<◌, ◌≤◌, Bool, true, false, ◌&&◌, not, cond, eqb, ltb, leb, List, [], ◌∷◌, ◌++◌, Contains, length, Option, Some, None, refl, sym, ap, ◌∙◌, inl, inr, arith}
use Rattle.std.specs.List.{filter, find, list_all, slice_get, range_with_len}
use Rattle.std.specs.Option.{option_map_or}
use Rattle.std.proofs.lemmas.Bool.{and_parts, and_from, or_cases, not-true, ltb-true, leb-true, le-leb, eqb-true, cases_Bool, false≢true}
use Rattle.std.proofs.lemmas.Option.{slice_get_within}
use Rattle.ddr_legality.specs.Bus.{is_legal_now}
use Rattle.ddr_hazards.specs.declared.waiting.Waiting.{Waiting}
use Rattle.ddr_hazards.specs.Hazards.{is_blocked}
use Rattle.ddr_refresh.specs.Refreshes.{Refreshes, debt_of, is_forced}
use Rattle.ddr_arbiter.specs.declared.choice.Choice.{Choice}
use Rattle.ddr_arbiter.specs.declared.choice.Choice.TheVariants as choice
use Rattle.ddr_arbiter.specs.Choice.{passes_at, is_overdue, is_idly_forced, is_rank_forced, is_rank_idle, some_bank_active, refresh_choice_at, refresh_choice, ranks_of, is_free, is_of_free_rank, free_places, is_oldest_capped, of_kind, served_kind, or_all, candidates_of, can_column, column_choice, is_row_shared, can_activate, can_precharge, row_choice_at, row_choice, is_something, choice_of}
use Rattle.ddr_arbiter.specs.Commands.{column_of, precharge_all, refresh}
use Rattle.ddr_arbiter.specs.Laws.{IsLawful, owed}
use Rattle.ddr_arbiter.specs.Situation.{Situation}
use Rattle.ddr_arbiter.proofs.CommandLemmas.{auto_legal}

-- what passes a test is in the list
pub passes_some : (test : Waiting → Bool) (o : Option Waiting) → option_map_or test o false ≡ true → (w : Waiting) × (o ≡ Some w) × (test w ≡ true)
passes_some test None passes = absurd (false≢true passes)
passes_some test (Some w) passes = (w, refl, passes)

not_empty : (waiting : List Waiting) (place : ℕ) (w : Waiting) → slice_get waiting place ≡ Some w → waiting ≡ [] → ⊥
not_empty waiting place w is empty =
    let none : Some w ≡ None = sym is ∙ ap (λ ws. slice_get ws place) empty in
    cc

-- candidates

all_filter_by : (p test : ℕ → Bool) (xs : List ℕ) → ((x : ℕ) → test x ≡ true → p x ≡ true) → list_all p (filter test xs) ≡ true
all_filter_by p test [] implies = refl
all_filter_by p test (x ∷ xs) implies = by_test (test x) refl (all_filter_by p test xs implies)
  where
    by_test : (w : Bool) → test x ≡ w → list_all p (filter test xs) ≡ true → list_all p (cond (test x) (x ∷ filter test xs) (filter test xs)) ≡ true
    by_test true is rest = rw is (and_from (p x) (list_all p (filter test xs)) (implies x is) rest)
    by_test false is rest = rw is rest

all_both : (p : ℕ → Bool) (xs ys : List ℕ) → list_all p xs ≡ true → list_all p ys ≡ true → list_all p (xs ++ ys) ≡ true
all_both p [] ys here there = there
all_both p (x ∷ xs) ys here there =
    let parts = and_parts (p x) (list_all p xs) here in
    and_from (p x) (list_all p (xs ++ ys)) parts.0 (all_both p xs ys parts.1 there)

all_narrower : (p q : ℕ → Bool) (xs : List ℕ) → list_all p xs ≡ true → list_all p (filter q xs) ≡ true
all_narrower p q [] all = refl
all_narrower p q (x ∷ xs) all =
    let parts = and_parts (p x) (list_all p xs) all in
    by_test (q x) parts.0 (all_narrower p q xs parts.1)
  where
    by_test : (w : Bool) → p x ≡ true → list_all p (filter q xs) ≡ true → list_all p (cond w (x ∷ filter q xs) (filter q xs)) ≡ true
    by_test true here rest = and_from (p x) (list_all p (filter q xs)) here rest
    by_test false here rest = rest

all_either : (p : ℕ → Bool) (some all : List ℕ) → list_all p some ≡ true → list_all p all ≡ true → list_all p (or_all some all) ≡ true
all_either p [] all kept whole = whole
all_either p (x ∷ xs) all kept whole = kept

find_all : (p test : ℕ → Bool) (xs : List ℕ) (y : ℕ) → list_all p xs ≡ true → find test xs ≡ Some y → (p y ≡ true) × (test y ≡ true)
find_all p test [] y all found = cc
find_all p test (x ∷ xs) y all found =
    let parts = and_parts (p x) (list_all p xs) all in
    by_test (test x) refl parts.0 (find_all p test xs y parts.1)
  where
    by_test : (w : Bool) → test x ≡ w → p x ≡ true → (find test xs ≡ Some y → (p y ≡ true) × (test y ≡ true)) → (p y ≡ true) × (test y ≡ true)
    by_test true e here rest =
        let same : Some x ≡ Some y = rw e at found in
        let it : x ≡ y = cc in
        (sym (ap p it) ∙ here, sym (ap test it) ∙ e)
    by_test false e here rest = rest (rw e at found)

-- numbers one above the other
abbrev Rising : ℕ → List ℕ → Type 0
Rising least [] = Unit {0}
Rising least (x ∷ xs) = (least ≤ x) × Rising (x + 1) xs

rising_lower : (least lower : ℕ) (xs : List ℕ) → lower ≤ least → Rising least xs → Rising lower xs
rising_lower least lower [] below rising = tt
rising_lower least lower (x ∷ xs) below rising = (omega (arith, rising.0), rising.1)

rising_range : (a n : ℕ) → Rising a (range_with_len a n)
rising_range a zero = tt
rising_range a (suc n) = (omega arith, rising_range (a + 1) n)

rising_filter : (test : ℕ → Bool) (least : ℕ) (xs : List ℕ) → Rising least xs → Rising least (filter test xs)
rising_filter test least [] rising = tt
rising_filter test least (x ∷ xs) rising = by_test (test x) (rising_filter test (x + 1) xs rising.1)
  where
    by_test : (w : Bool) → Rising (x + 1) (filter test xs) → Rising least (cond w (x ∷ filter test xs) (filter test xs))
    by_test true rest = (rising.0, rest)
    by_test false rest = rising_lower (x + 1) least (filter test xs) (omega (arith, rising.0)) rest

rising_either : (least : ℕ) (some all : List ℕ) → Rising least some → Rising least all → Rising least (or_all some all)
rising_either least [] all some_rise all_rise = all_rise
rising_either least (x ∷ xs) all some_rise all_rise = some_rise

rising_above : (least x : ℕ) (xs : List ℕ) → Rising least xs → Contains xs x → least ≤ x
rising_above least x [] rising at = absurd (omega (arith, at.1))
rising_above least x (z ∷ zs) rising (zero, within, is) = omega (arith, rising.0, is)
rising_above least x (z ∷ zs) rising (suc k, within, is) = omega (arith, rising.0, rising_above (z + 1) x zs rising.1 (k, omega (arith, within), is))

-- what is found is in the list, and nothing lower in it passes
find_contains : (test : ℕ → Bool) (xs : List ℕ) (y : ℕ) → find test xs ≡ Some y → Contains xs y
find_contains test [] y found = cc
find_contains test (x ∷ xs) y found = by_test (test x) refl (find_contains test xs y)
  where
    by_test : (w : Bool) → test x ≡ w → (find test xs ≡ Some y → Contains xs y) → Contains (x ∷ xs) y
    by_test true e rest = let same : Some x ≡ Some y = rw e at found in (zero, omega arith, cc)
    by_test false e rest = let there = rest (rw e at found) in (suc there.0, omega (arith, there.1), there.2)

find_none : (test : ℕ → Bool) (xs : List ℕ) (x : ℕ) → find test xs ≡ None → Contains xs x → test x ≡ false
find_none test [] x none at = absurd (omega (arith, at.1))
find_none test (z ∷ zs) x none at = by_test (test z) refl (find_none test zs x) at
  where
    by_test : (w : Bool) → test z ≡ w → (find test zs ≡ None → Contains zs x → test x ≡ false) → Contains (z ∷ zs) x → test x ≡ false
    by_test true e rest there = let some : Some z ≡ None = rw e at none in cc
    by_test false e rest (zero, within, is) = sym (ap test is) ∙ e
    by_test false e rest (suc k, within, is) = rest (rw e at none) (k, omega (arith, within), is)

find_first : (test : ℕ → Bool) (least : ℕ) (xs : List ℕ) (x y : ℕ) → Rising least xs → find test xs ≡ Some y → x < y → Contains xs x → test x ≡ false
find_first test least [] x y rising found before at = cc
find_first test least (z ∷ zs) x y rising found before at = by_test (test z) refl (find_first test (z + 1) zs x y rising.1) at
  where
    by_test : (w : Bool) → test z ≡ w → (find test zs ≡ Some y → x < y → Contains zs x → test x ≡ false) → Contains (z ∷ zs) x → test x ≡ false
    by_test true e rest (zero, within, is) = let same : Some z ≡ Some y = rw e at found in let it : z ≡ y = cc in absurd (omega (arith, it, is, before))
    by_test true e rest (suc k, within, is) =
        let same : Some z ≡ Some y = rw e at found in
        let it : z ≡ y = cc in
        absurd (omega (arith, it, before, rising_above (z + 1) x zs rising.1 (k, omega (arith, within), is)))
    by_test false e rest (zero, within, is) = sym (ap test is) ∙ e
    by_test false e rest (suc k, within, is) = rest (rw e at found) before (k, omega (arith, within), is)

-- the oldest has no older one
oldest_first : (waiting : List Waiting) → (not (is_blocked waiting 0) && true) ≡ true
oldest_first [] = refl
oldest_first (w ∷ ws) = refl

abbrev is_unblocked : List Waiting → ℕ → Bool
is_unblocked waiting place = not (is_blocked waiting place)

abbrev served_of : Situation → List ℕ
served_of s = of_kind (served_kind s.drain) s.waiting (free_places s.waiting s.refreshes)

all_unblocked : (s : Situation) → list_all (is_unblocked s.waiting) (candidates_of s) ≡ true
all_unblocked s = elim (cases_Bool (is_oldest_capped s.bus.now s.policy.cap s.waiting)) [
  | inl capped ↦ rw capped (all_narrower (is_unblocked s.waiting) (is_of_free_rank s.waiting s.refreshes) (0 ∷ []) (oldest_first s.waiting))
  | inr young ↦
      let whole = all_filter_by (is_unblocked s.waiting) (is_free s.waiting s.refreshes) (range_with_len 0 (length s.waiting)) (λ x free. (and_parts _ _ free).0) in
      rw young (all_either (is_unblocked s.waiting) (served_of s) (free_places s.waiting s.refreshes)
      (all_narrower (is_unblocked s.waiting) _ (free_places s.waiting s.refreshes) whole) whole)
]

all_of_free_ranks : (s : Situation) → list_all (is_of_free_rank s.waiting s.refreshes) (candidates_of s) ≡ true
all_of_free_ranks s = elim (cases_Bool (is_oldest_capped s.bus.now s.policy.cap s.waiting)) [
  | inl capped ↦ rw capped (all_filter_by (is_of_free_rank s.waiting s.refreshes) (is_of_free_rank s.waiting s.refreshes) (0 ∷ []) (λ x free. free))
  | inr young ↦
      let whole = all_filter_by (is_of_free_rank s.waiting s.refreshes) (is_free s.waiting s.refreshes) (range_with_len 0 (length s.waiting)) (λ x free. (and_parts _ _ free).1) in
      rw young (all_either (is_of_free_rank s.waiting s.refreshes) (served_of s) (free_places s.waiting s.refreshes)
      (all_narrower (is_of_free_rank s.waiting s.refreshes) _ (free_places s.waiting s.refreshes) whole) whole)
]

candidates_rise : (s : Situation) → Rising 0 (candidates_of s)
candidates_rise s = elim (cases_Bool (is_oldest_capped s.bus.now s.policy.cap s.waiting)) [
  | inl capped ↦ rw capped (rising_filter (is_of_free_rank s.waiting s.refreshes) 0 (0 ∷ []) (omega arith, tt))
  | inr young ↦
      let whole = rising_filter (is_free s.waiting s.refreshes) 0 (range_with_len 0 (length s.waiting)) (rising_range 0 (length s.waiting)) in
      rw young (rising_either 0 (served_of s) (free_places s.waiting s.refreshes) (rising_filter _ 0 (free_places s.waiting s.refreshes) whole) whole)
]

all_oldest : (s : Situation) → is_oldest_capped s.bus.now s.policy.cap s.waiting ≡ true → list_all (λ place. eqb place 0) (candidates_of s) ≡ true
all_oldest s capped = rw capped (all_narrower (λ place. eqb place 0) (is_of_free_rank s.waiting s.refreshes) (0 ∷ []) refl)

-- where the cap is reached, what is found among the candidates is the oldest
found_oldest : (s : Situation) (test : ℕ → Bool) (place : ℕ) → find test (candidates_of s) ≡ Some place → is_oldest_capped s.bus.now s.policy.cap s.waiting ≡ true → place ≡ 0
found_oldest s test place found capped = eqb-true place 0 (find_all (λ p. eqb p 0) test (candidates_of s) place (all_oldest s capped) found).0

-- what is found among the candidates is of a rank that is not forced
found_free : (s : Situation) (test : ℕ → Bool) (place : ℕ) (w : Waiting) → find test (candidates_of s) ≡ Some place → slice_get s.waiting place ≡ Some w → is_rank_forced s.waiting s.refreshes w.request.place.rank ≡ false
found_free s test place w found here =
    let free = (find_all (is_of_free_rank s.waiting s.refreshes) test (candidates_of s) place (all_of_free_ranks s) found).0 in
    not-true _ (sym (ap (λ o. option_map_or (λ v. not (is_rank_forced s.waiting s.refreshes v.request.place.rank)) o false) here) ∙ free)

-- a debt of none forces no refresh

forced_due : (nothing_pending : Bool) (r : Refreshes) → is_forced nothing_pending r ≡ true → 1 ≤ debt_of r
forced_due nothing_pending r forced = elim (or_cases (ltb r.postpone (debt_of r)) (nothing_pending && leb 1 (debt_of r)) forced) [
  | inl over ↦ let more = ltb-true r.postpone (debt_of r) over in omega (arith, more)
  | inr one ↦ leb-true 1 (debt_of r) (and_parts nothing_pending (leb 1 (debt_of r)) one).1
]

owes_some : (nothing_pending : Bool) (o : Option Refreshes) → option_map_or (is_forced nothing_pending) o false ≡ true → leb 1 (option_map_or debt_of o 0) ≡ true
owes_some nothing_pending None forced = absurd (false≢true forced)
owes_some nothing_pending (Some r) forced = le-leb 1 (debt_of r) (forced_due nothing_pending r forced)

all_owe : (s : Situation) → list_all (λ rank. leb 1 (owed s rank)) (filter (is_overdue s.refreshes) (ranks_of s.refreshes) ++ filter (is_idly_forced s.waiting s.refreshes) (ranks_of s.refreshes)) ≡ true
all_owe s =
    all_both (λ rank. leb 1 (owed s rank)) (filter (is_overdue s.refreshes) (ranks_of s.refreshes)) (filter (is_idly_forced s.waiting s.refreshes) (ranks_of s.refreshes))
    (all_filter_by (λ rank. leb 1 (owed s rank)) (is_overdue s.refreshes) (ranks_of s.refreshes) (λ rank over. owes_some false (slice_get s.refreshes rank) over))
    (all_filter_by (λ rank. leb 1 (owed s rank)) (is_idly_forced s.waiting s.refreshes) (ranks_of s.refreshes)
    (λ rank idly. owes_some (is_rank_idle s.waiting rank) (slice_get s.refreshes rank) (and_parts _ _ idly).0))

-- each answer

-- no candidate could be read or written, had there been room
abbrev NoneReady : Situation → Type 0
NoneReady s = s.room ≡ true → (place : ℕ) → Contains (candidates_of s) place → can_column s.bus s.waiting place ≡ false

lawful_nothing : (s : Situation) → NoneReady s → IsLawful s choice.Nothing
lawful_nothing s none = record {
  in_list = tt;
  legal = tt;
  no_older = tt;
  room = tt;
  idle = λ empty paid. refl;
  forced = tt;
  due = tt;
  capped = λ capped. tt;
  candidate = tt;
  first_come = tt;
  first_ready = λ room no_column no_refresh. none room;
  closes = λ place is. cc;
}

lawful_refresh : (s : Situation) (rank : ℕ) → 1 ≤ owed s rank → is_legal_now s.bus (refresh rank) ≡ true → IsLawful s (choice.Refresh rank)
lawful_refresh s rank due legal = record {
  in_list = tt;
  legal = legal;
  no_older = tt;
  room = tt;
  idle = λ empty paid. absurd (omega (arith, due, paid rank));
  forced = tt;
  due = due;
  capped = λ capped. tt;
  candidate = tt;
  first_come = tt;
  first_ready = λ room no_column no_refresh. cc;
  closes = λ place is. cc;
}

lawful_precharge_all : (s : Situation) (rank : ℕ) → 1 ≤ owed s rank → is_legal_now s.bus (precharge_all rank) ≡ true → IsLawful s (choice.PreAll rank)
lawful_precharge_all s rank due legal = record {
  in_list = tt;
  legal = legal;
  no_older = tt;
  room = tt;
  idle = λ empty paid. absurd (omega (arith, due, paid rank));
  forced = tt;
  due = due;
  capped = λ capped. tt;
  candidate = tt;
  first_come = tt;
  first_ready = λ room no_column no_refresh. cc;
  closes = λ place is. cc;
}

-- what holds of a read or write that is found among the candidates
record Found (s : Situation) (place : ℕ) : Type 0 where
  pub waiting : Waiting
  pub here : slice_get s.waiting place ≡ Some waiting
  pub legal : is_legal_now s.bus (column_of false waiting.request) ≡ true
  pub no_older : is_blocked s.waiting place ≡ false
  pub free : is_rank_forced s.waiting s.refreshes waiting.request.place.rank ≡ false

found_column : (s : Situation) (place : ℕ) → find (can_column s.bus s.waiting) (candidates_of s) ≡ Some place → Found s place
found_column s place found =
    let parts = find_all (is_unblocked s.waiting) (can_column s.bus s.waiting) (candidates_of s) place (all_unblocked s) found in
    let served = passes_some _ (slice_get s.waiting place) parts.1 in record {
      waiting = served.0;
      here = served.1;
      legal = served.2;
      no_older = not-true (is_blocked s.waiting place) parts.0;
      free = found_free s (can_column s.bus s.waiting) place served.0 found served.1;
    }

lawful_column : (s : Situation) (place : ℕ) → s.room ≡ true → find (can_column s.bus s.waiting) (candidates_of s) ≡ Some place → IsLawful s (choice.Column place)
lawful_column s place room found =
    let it = found_column s place found in record {
      in_list = slice_get_within s.waiting place it.waiting it.here;
      legal = rw it.here it.legal;
      no_older = it.no_older;
      room = room;
      idle = λ empty paid. absurd (not_empty s.waiting place it.waiting it.here empty);
      forced = rw it.here it.free;
      due = tt;
      capped = found_oldest s (can_column s.bus s.waiting) place found;
      candidate = find_contains (can_column s.bus s.waiting) (candidates_of s) place found;
      first_come = λ older before at. find_first (can_column s.bus s.waiting) 0 (candidates_of s) older place (candidates_rise s) found before at;
      first_ready = λ has_room no_column no_refresh. cc;
      closes = λ other is. cc;
    }

lawful_auto : (s : Situation) (place : ℕ) → s.room ≡ true → find (can_column s.bus s.waiting) (candidates_of s) ≡ Some place → s.policy.closed ≡ true → is_row_shared s.waiting place ≡ false →
    IsLawful s (choice.ColumnAuto place)
lawful_auto s place room found closed alone =
    let it = found_column s place found in record {
      in_list = slice_get_within s.waiting place it.waiting it.here;
      legal = rw it.here (auto_legal s.bus true it.waiting.request ∙ it.legal);
      no_older = it.no_older;
      room = room;
      idle = λ empty paid. absurd (not_empty s.waiting place it.waiting it.here empty);
      forced = rw it.here it.free;
      due = tt;
      capped = found_oldest s (can_column s.bus s.waiting) place found;
      candidate = find_contains (can_column s.bus s.waiting) (candidates_of s) place found;
      first_come = λ older before at. find_first (can_column s.bus s.waiting) 0 (candidates_of s) older place (candidates_rise s) found before at;
      first_ready = λ has_room no_column no_refresh. cc;
      closes = λ other is. let same : place ≡ other = cc in (closed, ap (is_row_shared s.waiting) (sym same) ∙ alone);
    }

lawful_columns : (s : Situation) (place : ℕ) → s.room ≡ true → find (can_column s.bus s.waiting) (candidates_of s) ≡ Some place → IsLawful s (column_choice s.policy.closed s.waiting place)
lawful_columns s place room found = elim (cases_Bool (s.policy.closed && not (is_row_shared s.waiting place))) [
  | inl closes ↦ let parts = and_parts _ _ closes in rw closes (lawful_auto s place room found parts.0 (not-true _ parts.1))
  | inr stays ↦ rw stays (lawful_column s place room found)
]

lawful_row : (s : Situation) (place : ℕ) (test : ℕ → Bool) → find test (candidates_of s) ≡ Some place → NoneReady s → IsLawful s (row_choice_at s.bus s.waiting (candidates_of s) place)
lawful_row s place test found none = elim (cases_Bool (passes_at (λ w. can_activate s.bus w.request.place) s.waiting place)) [
  | inl act ↦
      let served = passes_some _ (slice_get s.waiting place) act in
      rw act (record {
        in_list = slice_get_within s.waiting place served.0 served.1;
        legal = rw served.1 (and_parts _ _ served.2).1;
        no_older = tt;
        room = tt;
        idle = λ empty paid. absurd (not_empty s.waiting place served.0 served.1 empty);
        forced = rw served.1 (found_free s test place served.0 found served.1);
        due = tt;
        capped = found_oldest s test place found;
        candidate = tt;
        first_come = tt;
        first_ready = λ room no_column no_refresh. none room;
        closes = λ other is. cc;
      })
  | inr no_act ↦ elim (cases_Bool (passes_at (λ w. can_precharge s.bus s.waiting (candidates_of s) w.request.place) s.waiting place)) [
    | inl pre ↦
        let served = passes_some _ (slice_get s.waiting place) pre in
        rw (no_act, pre) (record {
          in_list = slice_get_within s.waiting place served.0 served.1;
          legal = rw served.1 (and_parts _ _ served.2).1;
          no_older = tt;
          room = tt;
          idle = λ empty paid. absurd (not_empty s.waiting place served.0 served.1 empty);
          forced = rw served.1 (found_free s test place served.0 found served.1);
          due = tt;
          capped = found_oldest s test place found;
          candidate = tt;
          first_come = tt;
          first_ready = λ room no_column no_refresh. none room;
          closes = λ other is. cc;
        })
    | inr no_pre ↦ rw (no_act, no_pre) (lawful_nothing s none)
  ]
]

lawful_rows : (s : Situation) → NoneReady s → (o : Option ℕ) → find (λ place. is_something (row_choice_at s.bus s.waiting (candidates_of s) place)) (candidates_of s) ≡ o →
    IsLawful s (option_map_or (row_choice_at s.bus s.waiting (candidates_of s)) o choice.Nothing)
lawful_rows s none None found = lawful_nothing s none
lawful_rows s none (Some place) found = lawful_row s place (λ at. is_something (row_choice_at s.bus s.waiting (candidates_of s) at)) found none

lawful_access : (s : Situation) (room : Bool) → s.room ≡ room → (o : Option ℕ) → find (can_column s.bus s.waiting) (candidates_of s) ≡ o →
    IsLawful s (option_map_or (column_choice s.policy.closed s.waiting) (cond room o None) (row_choice s.bus s.waiting (candidates_of s)))
lawful_access s false is o found = lawful_rows s (λ room. absurd (false≢true (sym is ∙ room))) _ refl
lawful_access s true is None found = lawful_rows s (λ room place at. find_none (can_column s.bus s.waiting) (candidates_of s) place found at) _ refl
lawful_access s true is (Some place) found = lawful_columns s place is found

lawful_at_rank : (s : Situation) (rank : ℕ) → 1 ≤ owed s rank → is_something (refresh_choice_at s.bus rank) ≡ true → IsLawful s (refresh_choice_at s.bus rank)
lawful_at_rank s rank due some = elim (cases_Bool (not (some_bank_active s.bus rank) && is_legal_now s.bus (refresh rank))) [
  | inl ref ↦ rw ref (lawful_refresh s rank due (and_parts _ _ ref).1)
  | inr no_ref ↦ elim (cases_Bool (some_bank_active s.bus rank && is_legal_now s.bus (precharge_all rank))) [
    | inl all ↦ rw (no_ref, all) (lawful_precharge_all s rank due (and_parts _ _ all).1)
    | inr neither ↦ let nothing : is_something (refresh_choice_at s.bus rank) ≡ false = rw (no_ref, neither) refl in absurd (false≢true (sym nothing ∙ some))
  ]
]

lawful_forced : (s : Situation) (o : Option ℕ) →
    find (λ rank. is_something (refresh_choice_at s.bus rank)) (filter (is_overdue s.refreshes) (ranks_of s.refreshes) ++ filter (is_idly_forced s.waiting s.refreshes) (ranks_of s.refreshes)) ≡ o →
    is_something (option_map_or (refresh_choice_at s.bus) o choice.Nothing) ≡ true → IsLawful s (option_map_or (refresh_choice_at s.bus) o choice.Nothing)
lawful_forced s None found some = absurd (false≢true some)
lawful_forced s (Some rank) found some =
    let parts = find_all (λ r. leb 1 (owed s r)) (λ r. is_something (refresh_choice_at s.bus r)) _ rank (all_owe s) found in
    lawful_at_rank s rank (leb-true 1 (owed s rank) parts.0) some

pub choice_lawful : (s : Situation) → IsLawful s (choice_of s)
choice_lawful s = elim (cases_Bool (is_something (refresh_choice s.bus s.waiting s.refreshes))) [
  | inl some ↦ rw some (lawful_forced s _ refl some)
  | inr free ↦ rw free (lawful_access s s.room refl _ refl)
]

pub lawful_where : (s : Situation) (c : Choice) → c ≡ choice_of s → IsLawful s c
lawful_where s c is = rw is (choice_lawful s)
