-- The places of lines, and the stored rows, when a row is stored, a line is entered, and a line is written.
use Rattle.std.proofs.Common.{◌≡◌, ◌≢◌, ℕ, ◌+◌, ◌-◌, ◌<◌, ◌≤◌, ◌^◌, Bool, true, false, ◌&&◌, ◌⊎◌, cond, eqb, List, [], ◌∷◌, ◌++◌, length, map, get_or, set, replicate, Some, All, refl, sym, ap, subst, ◌∙◌, inl, inr, arith}
use Rattle.std.specs.List.{sum_by, count_by}
use Rattle.std.specs.Option.{option_map_or}
use Rattle.std.proofs.lemmas.Bool.{cases_eq, cases_lt, eq-eqb, ne_eqb}
use Rattle.std.proofs.lemmas.Bool.Decides.{nat_tests}
use Rattle.std.proofs.lemmas.List.{get_or-replicate, get_or-set_same, get_or-set_other, get_or_append_left, get_or_push, get_or_past, get_or_default, get_or-map, length-map, length-replicate, length-set, length_push, map-set, same_lists, set-get_or}
use Rattle.std.proofs.lemmas.List.Elements.{All-head, All-tail, All-push, All-set}
use Rattle.std.proofs.lemmas.List.Sums.{sum_by_push, sum_by-set, get_or-le-sum_by}
use Rattle.std.proofs.lemmas.List.Folds.{sum_by-replicate}
use Rattle.std.proofs.lemmas.Option.{slice_get-get_or, slice_get_past, slice_get_within, get_or_from_slice_get}
use Rattle.ddr_row_array.specs.declared.slot.RowAddress.{RowAddress}
use Rattle.ddr_row_array.specs.declared.store.Store.{Store}
use Rattle.ddr_row_array.specs.Rows.{StoredRow, zero_line}
use Rattle.ddr_row_array.specs.Arena.{Reserved}
use Rattle.ddr_row_array.specs.LentItem.{with_item}
use Rattle.ddr_row_array.specs.Placed.{PlacedRow, PlacedRows, HasPlace, place_at, placed}
use Rattle.ddr_row_array.specs.Store.{IsKept, HasRoom, SameStore, line_at, stored_of, stored_rows, unentered_in}
use Rattle.ddr_row_array.proofs.Opened.{get_or-set_if}

map_same : {X Y : Type 0} (f g : X → Y) (xs : List X) → All (λ x. f x ≡ g x) xs → map f xs ≡ map g xs
map_same f g [] h = refl
map_same f g (x ∷ xs) h =
    ap (λ y. y ∷ map f xs) (All-head (λ y. f y ≡ g y) x xs h) ∙ ap (λ ys. g x ∷ ys) (map_same f g xs (All-tail (λ y. f y ≡ g y) x xs h))

get_or_zeros : (n k : ℕ) → get_or (replicate {A = ℕ} n 0) k 0 ≡ 0
get_or_zeros n k =
    elim (cases_lt k n) [ inl within ↦ get_or-replicate n k 0 0 within | inr past ↦ get_or_past (replicate n 0) k 0 (omega (arith, length-replicate {A = ℕ} n 0)) ]

-- ---- places
-- the places of a slot that is there
pub place_at_slot : (slots : List PlacedRow) (i l : ℕ) (d : PlacedRow) → i < length slots → place_at slots i l ≡ get_or (get_or slots i d).places l 0
place_at_slot slots i l d within =
    ap (λ o. get_or (option_map_or (λ (s : PlacedRow). s.places) o []) l 0) (slice_get-get_or slots i d within)

place_at_past : (slots : List PlacedRow) (i l : ℕ) → length slots ≤ i → place_at slots i l ≡ 0
place_at_past slots i l past =
    ap (λ o. get_or (option_map_or (λ (s : PlacedRow). s.places) o []) l 0) (slice_get_past slots i past)

-- a new row of which no line was entered
place_at_push : (slots : List PlacedRow) (t : PlacedRow) (n : ℕ) → t.places ≡ replicate n 0 → (i l : ℕ) → place_at (slots ++ t ∷ []) i l ≡ place_at slots i l
place_at_push slots t n zeros i l =
    elim (cases_lt i (length slots)) [
      | inl within ↦
          place_at_slot (slots ++ t ∷ []) i l t (omega (arith, length_push slots t))
          ∙ ap (λ (s : PlacedRow). get_or s.places l 0) (get_or_append_left slots (t ∷ []) t i within)
          ∙ sym (place_at_slot slots i l t within)
      | inr past ↦
          elim (cases_eq i (length slots)) [
            | inl last ↦
                place_at_slot (slots ++ t ∷ []) i l t (omega (arith, length_push slots t))
                ∙ ap (λ (s : PlacedRow). get_or s.places l 0) (get_or_push slots t t i (sym last))
                ∙ ap (λ places. get_or places l 0) zeros ∙ get_or_zeros n l ∙ sym (place_at_past slots i l past)
            | inr other ↦ place_at_past (slots ++ t ∷ []) i l (omega (arith, length_push slots t)) ∙ sym (place_at_past slots i l past)
          ]
    ]

-- a line whose place is set
place_at-set : (slots : List PlacedRow) (k l p : ℕ) (t : PlacedRow) → k < length slots → t ≡ get_or slots k t → l < length t.places → (i m : ℕ) → place_at (set slots k (placed t l p)) i m ≡ cond (eqb i k && eqb m l) p (place_at slots i m)
place_at-set slots k l p t within is long i m =
    elim (cases_eq i k) [
      | inl same ↦
          rw (same, eq-eqb k k refl)
          (place_at_slot (set slots k (placed t l p)) k m t (omega (arith, length-set slots k (placed t l p)))
          ∙ ap (λ (s : PlacedRow). get_or s.places m 0) (get_or-set_same slots k (placed t l p) t within)
          ∙ get_or-set_if t.places l m p 0 long
          ∙ ap (cond (eqb m l) p) (ap (λ (s : PlacedRow). get_or s.places m 0) is ∙ sym (place_at_slot slots k m t within)))
      | inr other ↦
          rw (ne_eqb i k other)
          (elim (cases_lt i (length slots)) [
            | inl here ↦
                place_at_slot (set slots k (placed t l p)) i m t (omega (arith, length-set slots k (placed t l p)))
                ∙ ap (λ (s : PlacedRow). get_or s.places m 0) (get_or-set_other slots k i (placed t l p) t other)
                ∙ sym (place_at_slot slots i m t here)
            | inr past ↦ place_at_past (set slots k (placed t l p)) i m (omega (arith, length-set slots k (placed t l p))) ∙ sym (place_at_past slots i m past)
          ])
    ]

-- ---- what is kept
pub IsKept-same : (old new : Store) → IsKept old → SameStore old new → new.unentered ≡ old.unentered → length new.lines.items + new.unentered ≤ new.lines.capacity → new.lines.capacity ≤ 2 ^ 57 → IsKept new
IsKept-same old new kept same counted room bounded = record {
  narrow = rw same.width kept.narrow;
  zeros = rw same.lines kept.zeros;
  whole = rw (same.slots, same.width) kept.whole;
  within = rw (same.slots, same.lines) kept.within;
  apart = rw same.slots kept.apart;
  counted = rw (same.slots, counted) kept.counted;
  room = room;
  bounded = bounded;
}

no_lines_of_zeros : (n : ℕ) → count_by (λ place. eqb place 0) (replicate n 0) ≡ n
no_lines_of_zeros n = omega (arith, sum_by-replicate (λ place. cond (eqb place 0) 1 0) n 0)

pub IsKept-pushed : (old new : Store) (t : PlacedRow) → IsKept old → HasRoom old → t.places ≡ replicate old.slots.width 0 → new.slots.width ≡ old.slots.width → new.slots.items ≡ old.slots.items ++ t ∷ [] → new.lines ≡ old.lines → new.unentered ≡ old.unentered + old.slots.width → IsKept new
IsKept-pushed old new t kept room zeros width slots lines counted = record {
  narrow = rw width kept.narrow;
  zeros = rw lines kept.zeros;
  whole = rw (slots, width) (All-push (λ (u : PlacedRow). length u.places ≡ old.slots.width) old.slots.items t kept.whole (ap length zeros ∙ length-replicate {A = ℕ} old.slots.width 0));
  within = λ i l. rw (slots, lines, place_at_push old.slots.items t old.slots.width zeros i l) (kept.within i l);
  apart = λ i j l m. rw (slots, place_at_push old.slots.items t old.slots.width zeros i l, place_at_push old.slots.items t old.slots.width zeros j m) (kept.apart i j l m);
  counted =
      let sum = sum_by_push unentered_in old.slots.items t in
      let all : unentered_in t ≡ old.slots.width = ap (count_by (λ place. eqb place 0)) zeros ∙ no_lines_of_zeros old.slots.width in
      counted ∙ ap (λ n. n + old.slots.width) kept.counted ∙ ap (λ n. sum_by unentered_in old.slots.items + n) (sym all) ∙ sym sum ∙ ap (sum_by unentered_in) (sym slots);
  room = let lines_in = room.lines in rw (lines, counted) (omega arith);
  bounded = rw lines kept.bounded;
}

module _ (s : Store) (kept : IsKept s) where
  abbrev slots : List PlacedRow
  slots = s.slots.items

  abbrev lines : List (List ℕ)
  lines = s.lines.items

  -- each place of a slot has its line
  places_within : (i : ℕ) (d : PlacedRow) → i < length slots → All (λ q. q < length lines) (get_or slots i d).places
  places_within i d here m e within =
      let places = (get_or slots i d).places in
      subst (λ q. q < length lines) (place_at_slot slots i m d here ∙ get_or_default places m 0 e within) (kept.within i m)

  module _ (k l : ℕ) (there : HasPlace s.slots k l) (t : PlacedRow) (is : t ≡ get_or slots k t) where
    pub long_enough : l < length t.places
    long_enough =
        let whole : length (get_or slots k t).places ≡ s.slots.width = kept.whole k t there.in_slots in
        let same : length t.places ≡ s.slots.width = ap (λ (u : PlacedRow). length u.places) is ∙ whole in
        omega (arith, there.in_row)

    pub place_is : place_at slots k l ≡ get_or t.places l 0
    place_is = place_at_slot slots k l t there.in_slots ∙ ap (λ (u : PlacedRow). get_or u.places l 0) (sym is)

    own_places : All (λ q. q < length lines) t.places
    own_places = rw is (places_within k t there.in_slots)

    module _ (unset : get_or t.places l 0 ≡ 0) where
      -- there is room for the line
      pub one_unentered : 1 ≤ s.unentered
      one_unentered =
          let here : 1 ≤ unentered_in t = subst (λ q. cond (eqb q 0) 1 0 ≤ unentered_in t) unset (get_or-le-sum_by (λ place. cond (eqb place 0) 1 0) t.places l 0 long_enough) in
          let all : unentered_in (get_or slots k t) ≤ sum_by unentered_in slots = get_or-le-sum_by unentered_in slots k t there.in_slots in
          let same : unentered_in t ≡ unentered_in (get_or slots k t) = ap unentered_in is in
          omega (arith, kept.counted)

      pub fits : length s.lines.items < s.lines.capacity
      fits = omega (arith, kept.room, one_unentered)

-- ---- a line is entered
pub get_or-places_pushed : (lines : List (List ℕ)) (line : List ℕ) (places : List ℕ) → All (λ q. q < length lines) places → map (line_at (lines ++ line ∷ [])) places ≡ map (line_at lines) places
get_or-places_pushed lines line places within =
    map_same (line_at (lines ++ line ∷ [])) (line_at lines) places (λ m d h. get_or_append_left lines (line ∷ []) zero_line (get_or places m d) (within m d h))

first_of : (slots : List PlacedRow) (i : ℕ) → i < length slots → PlacedRow
first_of [] i h = absurd (omega arith)
first_of (x ∷ xs) i h = x

abbrev named : RowAddress → List (List ℕ) → StoredRow
named address lines = record { bank = address.bank; row = address.row; lines = lines }

both_true : (a b : Bool) → (a && b) ≡ true → (a ≡ true) × (b ≡ true)
both_true true b h = (refl, h)
both_true false b h = absurd (let e : false ≡ true = h in cc)

eqb-true : (a b : ℕ) → eqb a b ≡ true → a ≡ b
eqb-true a b h = grind (arith, nat_tests)

-- the new place is no place yet, and it is above 0
new_place_apart : (n : ℕ) (a b : Bool) (p q : ℕ) → p < n → q < n → cond a n p ≡ cond b n q → 0 < cond a n p → ((a ≡ true) × (b ≡ true)) ⊎ ((p ≡ q) × (0 < p))
new_place_apart n true true p q below beside same above = inl (refl, refl)
new_place_apart n true false p q below beside same above = absurd (omega arith)
new_place_apart n false true p q below beside same above = absurd (omega arith)
new_place_apart n false false p q below beside same above = inr (same, above)

new_place_within : (n : ℕ) (a : Bool) (p : ℕ) → p < n → cond a n p < n + 1
new_place_within n true p below = omega arith
new_place_within n false p below = omega arith

own_place : (k l n old : ℕ) → cond (eqb k k && eqb l l) n old ≡ n
own_place k l n old = rw (eq-eqb k k refl, eq-eqb l l refl) refl

one_zero_less : (new a old b : ℕ) → new + a ≡ old + b → a ≡ 1 → b ≡ 0 → new + 1 ≡ old
one_zero_less new a old b h one none = omega arith

recount : (sum new_sum old new u v : ℕ) → new_sum + old ≡ sum + new → new + 1 ≡ old → u + 1 ≡ v → v ≡ sum → u ≡ new_sum
recount sum new_sum old new u v h less after before = omega arith

module _ (s : Store) (kept : IsKept s) (k l : ℕ) (there : HasPlace s.slots k l) (t : PlacedRow) (is : t ≡ get_or s.slots.items k t) (unset : get_or t.places l 0 ≡ 0) where
  abbrev new_slot : ℕ → PlacedRow
  new_slot n = placed t l n

  module _ (n u : ℕ) (lines : Reserved (List ℕ)) (is_n : n ≡ length s.lines.items) (is_u : u + 1 ≡ s.unentered) (pushed : lines.items ≡ s.lines.items ++ zero_line ∷ []) (same_room : lines.capacity ≡ s.lines.capacity) where
    abbrev entered : Store
    entered = record s { slots = record s.slots { items = set s.slots.items k (new_slot n) }; lines = lines; unentered = u }

    pub place_at-entered : (i m : ℕ) → place_at entered.slots.items i m ≡ cond (eqb i k && eqb m l) n (place_at s.slots.items i m)
    place_at-entered = place_at-set s.slots.items k l n t there.in_slots is (long_enough s kept k l there t is)

    one_more : length lines.items ≡ n + 1
    one_more = ap length pushed ∙ length_push s.lines.items zero_line ∙ ap (λ m. m + 1) (sym is_n)

    below : (i m : ℕ) → place_at s.slots.items i m < n
    below i m = rw is_n (kept.within i m)

    counted-entered : u ≡ sum_by unentered_in entered.slots.items
    counted-entered =
        let f = λ (q : ℕ). cond (eqb q 0) 1 0 in
        let positive : 0 < n = let b = below k l in omega arith in
        let not_zero : f n ≡ 0 = rw (ne_eqb n 0 (λ e. omega arith)) refl in
        let was_zero : f (get_or t.places l 0) ≡ 1 = ap f unset in
        let inner : unentered_in (new_slot n) + f (get_or t.places l 0) ≡ unentered_in t + f n = sum_by-set f t.places l n 0 (long_enough s kept k l there t is) in
        let outer : sum_by unentered_in (set s.slots.items k (new_slot n)) + unentered_in (get_or s.slots.items k t) ≡ sum_by unentered_in s.slots.items + unentered_in (new_slot n) = sum_by-set unentered_in s.slots.items k (new_slot n) t there.in_slots in
        let one_less : unentered_in (new_slot n) + 1 ≡ unentered_in t = one_zero_less (unentered_in (new_slot n)) (f (get_or t.places l 0)) (unentered_in t) (f n) inner was_zero not_zero in
        recount (sum_by unentered_in s.slots.items) (sum_by unentered_in (set s.slots.items k (new_slot n))) (unentered_in (get_or s.slots.items k t)) (unentered_in (new_slot n)) u s.unentered outer (one_less ∙ ap unentered_in is) is_u kept.counted

    pub IsKept-entered : IsKept entered
    IsKept-entered = record {
      narrow = kept.narrow;
      zeros =
          let some : 0 < length s.lines.items = slice_get_within s.lines.items 0 zero_line kept.zeros in
          rw pushed (slice_get-get_or (s.lines.items ++ zero_line ∷ []) 0 zero_line (omega (arith, length_push s.lines.items zero_line))
          ∙ ap Some (get_or_append_left s.lines.items (zero_line ∷ []) zero_line 0 some ∙ get_or_from_slice_get s.lines.items 0 zero_line zero_line kept.zeros));
      whole =
          All-set (λ (x : PlacedRow). length x.places ≡ s.slots.width) s.slots.items k (new_slot n)
          (length-set t.places l n ∙ ap (λ (x : PlacedRow). length x.places) is ∙ kept.whole k t there.in_slots) kept.whole;
      within = λ i m. rw (one_more, place_at-entered i m) (new_place_within n (eqb i k && eqb m l) (place_at s.slots.items i m) (below i m));
      apart = λ i j m m' same above.
          let named' = rw (place_at-entered i m, place_at-entered j m') at same in
          let over = rw (place_at-entered i m) at above in
          elim (new_place_apart n (eqb i k && eqb m l) (eqb j k && eqb m' l) (place_at s.slots.items i m) (place_at s.slots.items j m') (below i m) (below j m') named' over) [
            | inl both ↦
                let first = both_true (eqb i k) (eqb m l) both.0 in
                let second = both_true (eqb j k) (eqb m' l) both.1 in
                (eqb-true i k first.0 ∙ sym (eqb-true j k second.0), eqb-true m l first.1 ∙ sym (eqb-true m' l second.1))
            | inr old ↦ kept.apart i j m m' old.0 old.1
          ];
      counted = counted-entered;
      room = let before = kept.room in let long = one_more in rw same_room (omega arith);
      bounded = rw same_room kept.bounded;
    }

    -- the slot has the bytes that it had
    same_slot : stored_of lines.items (new_slot n) ≡ stored_of s.lines.items t
    same_slot =
        let places = t.places in
        let long' = long_enough s kept k l there t is in
        let lines' = s.lines.items ++ zero_line ∷ [] in
        let last : line_at lines' n ≡ zero_line = get_or_push s.lines.items zero_line zero_line n (sym is_n) in
        let first : get_or (map (line_at s.lines.items) places) l zero_line ≡ zero_line =
        get_or-map (line_at s.lines.items) places l 0 zero_line long' ∙ ap (line_at s.lines.items) unset
        ∙ get_or_from_slice_get s.lines.items 0 zero_line zero_line kept.zeros in
        ap (named t.address)
        (ap (λ ls. map (line_at ls) (set places l n)) pushed
        ∙ map-set (line_at lines') places l n
        ∙ ap (λ ls. set ls l (line_at lines' n)) (get_or-places_pushed s.lines.items zero_line places (own_places s kept k l there t is))
        ∙ ap (set (map (line_at s.lines.items) places) l) (last ∙ sym first)
        ∙ set-get_or (map (line_at s.lines.items) places) l zero_line)

    pub stored_rows-entered : stored_rows entered ≡ stored_rows s
    stored_rows-entered =
        let slots = s.slots.items in
        let old = map (stored_of s.lines.items) slots in
        map-set (stored_of lines.items) slots k (new_slot n)
        ∙ ap (λ rows. set rows k (stored_of lines.items (new_slot n)))
        (map_same (stored_of lines.items) (stored_of s.lines.items) slots (λ j d h.
        let x = get_or slots j d in
        ap (named x.address) (ap (λ ls. map (line_at ls) x.places) pushed ∙ get_or-places_pushed s.lines.items zero_line x.places (places_within s kept j d h))))
        ∙ ap (set old k) (same_slot ∙ ap (stored_of s.lines.items) is ∙ sym (get_or-map (stored_of s.lines.items) slots k t (stored_of s.lines.items t) there.in_slots))
        ∙ set-get_or old k (stored_of s.lines.items t)

    -- the store that it leaves, whatever room it has for rows
    module _ (slots : PlacedRows) (width : slots.width ≡ s.slots.width) (items : slots.items ≡ set s.slots.items k (new_slot n)) where
      abbrev left : Store
      left = record s { slots = slots; lines = lines; unentered = u }

      pub IsKept-left : IsKept left
      IsKept-left =
          IsKept-same entered left IsKept-entered (record { width = width; slots = items; lines = refl }) refl IsKept-entered.room IsKept-entered.bounded

      pub stored_rows-left : stored_rows left ≡ stored_rows s
      stored_rows-left = ap (map (stored_of lines.items)) items ∙ stored_rows-entered

      pub place_at-left : n ≡ place_at slots.items k l
      place_at-left = rw items (sym (place_at-entered k l ∙ own_place k l n (place_at s.slots.items k l)))

      pub HasPlace-left : HasPlace slots k l
      HasPlace-left = record {
        in_slots = rw (items, length-set s.slots.items k (new_slot n)) there.in_slots;
        in_row = rw width there.in_row;
      }

-- ---- a line is written
module _ (s : Store) (kept : IsKept s) (k l : ℕ) (there : HasPlace s.slots k l) (p : ℕ) (is_p : p ≡ place_at s.slots.items k l) (set_p : p ≢ 0) (w : List ℕ) where
  abbrev pub written : Store
  written = record s { lines = with_item s.lines p w }

  positive : 0 < place_at s.slots.items k l
  positive = let e = is_p in grind (arith, set_p)

  pub p_within : p < length s.lines.items
  p_within = rw is_p (kept.within k l)

  line_at-written : (q : ℕ) → line_at (set s.lines.items p w) q ≡ cond (eqb q p) w (line_at s.lines.items q)
  line_at-written q = get_or-set_if s.lines.items p q w zero_line p_within

  -- another line has another place
  elsewhere : (i m : ℕ) → (place_at s.slots.items i m ≡ p → (i ≡ k) × (m ≡ l))
  elsewhere i m same = kept.apart i k m l (same ∙ is_p) (rw (same ∙ is_p) positive)

  pub IsKept-written : IsKept written
  IsKept-written = record {
    narrow = kept.narrow;
    zeros =
        let some : 0 < length s.lines.items = slice_get_within s.lines.items 0 zero_line kept.zeros in
        slice_get-get_or (set s.lines.items p w) 0 zero_line (omega (arith, length-set s.lines.items p w))
        ∙ ap Some (get_or-set_other s.lines.items p 0 w zero_line (λ e. set_p (sym e)) ∙ get_or_from_slice_get s.lines.items 0 zero_line zero_line kept.zeros);
    whole = kept.whole;
    within = λ i m. rw length-set (kept.within i m);
    apart = kept.apart;
    counted = kept.counted;
    room = rw (length-set s.lines.items p w) kept.room;
    bounded = kept.bounded;
  }

  -- the slot itself
  own_lines : (d : PlacedRow) → map (line_at (set s.lines.items p w)) (get_or s.slots.items k d).places ≡ set (map (line_at s.lines.items) (get_or s.slots.items k d).places) l w
  own_lines d =
      let lines = s.lines.items in
      let places = (get_or s.slots.items k d).places in
      let whole : length (get_or s.slots.items k d).places ≡ s.slots.width = kept.whole k d there.in_slots in
      let long : l < length places = omega (arith, there.in_row) in
      let here : (m : ℕ) → place_at s.slots.items k m ≡ get_or places m 0 = λ m. place_at_slot s.slots.items k m d there.in_slots in
      same_lists (map (line_at (set lines p w)) places) (set (map (line_at lines) places) l w)
      (length-map places (line_at (set lines p w)) ∙ sym (length-set (map (line_at lines) places) l w ∙ length-map places (line_at lines)))
      (λ m e h.
      let within : m < length places = rw (length-map places (line_at (set lines p w))) at h in
      get_or-map (line_at (set lines p w)) places m 0 e within
      ∙ line_at-written (get_or places m 0)
      ∙ elim (cases_eq m l) [
        | inl same ↦
            rw (same, eq-eqb (get_or places l 0) p (sym (here l) ∙ sym is_p))
            (sym (get_or-set_same (map (line_at lines) places) l w e (omega (arith, length-map places (line_at lines)))))
        | inr other ↦
            rw (ne_eqb (get_or places m 0) p (λ e'. other (elsewhere k m (here m ∙ e')).1))
            (sym (get_or-set_other (map (line_at lines) places) l m w e other ∙ get_or-map (line_at lines) places m 0 e within))
      ])

  -- another slot
  other_lines : (i : ℕ) (d : PlacedRow) → i < length s.slots.items → i ≢ k → map (line_at (set s.lines.items p w)) (get_or s.slots.items i d).places ≡ map (line_at s.lines.items) (get_or s.slots.items i d).places
  other_lines i d here other =
      let lines = s.lines.items in
      let places = (get_or s.slots.items i d).places in
      map_same (line_at (set lines p w)) (line_at lines) places (λ m e h.
      line_at-written (get_or places m e)
      ∙ rw (ne_eqb (get_or places m e) p (λ e'. other (elsewhere i m (place_at_slot s.slots.items i m d here ∙ get_or_default places m 0 e h ∙ e')).0)) refl)

  abbrev changed : StoredRow → StoredRow
  changed r = record r { lines = set r.lines l w }

  pub stored_rows-written : (d : StoredRow) → stored_rows written ≡ set (stored_rows s) k (changed (get_or (stored_rows s) k d))
  stored_rows-written d =
      let lines = s.lines.items in
      let slots = s.slots.items in
      let old = stored_rows s in
      let t = first_of slots k there.in_slots in
      same_lists (stored_rows written) (set old k (changed (get_or old k d)))
      (length-map slots (stored_of (set lines p w)) ∙ sym (length-set old k (changed (get_or old k d)) ∙ length-map slots (stored_of lines)))
      (λ i e h.
      let within : i < length slots = rw (length-map slots (stored_of (set lines p w))) at h in
      get_or-map (stored_of (set lines p w)) slots i t e within
      ∙ elim (cases_eq i k) [
        | inl same ↦
            rw same
            (ap (named (get_or slots k t).address) (own_lines t)
            ∙ ap changed (sym (get_or-map (stored_of lines) slots k t d there.in_slots))
            ∙ sym (get_or-set_same old k (changed (get_or old k d)) e (omega (arith, length-map slots (stored_of lines), there.in_slots))))
        | inr other ↦
            ap (named (get_or slots i t).address) (other_lines i t within other)
            ∙ sym (get_or-set_other old k i (changed (get_or old k d)) e other ∙ get_or-map (stored_of lines) slots i t e within)
      ])

-- ---- what the code makes of a line whose place was read as 0
pub record IsEntered (old new : Store) (k l n : ℕ) : Type 0 where
  pub kept : IsKept new
  pub there : HasPlace new.slots k l
  pub place : n ≡ place_at new.slots.items k l
  pub rows : stored_rows new ≡ stored_rows old

module _ (s : Store) (kept : IsKept s) (k l : ℕ) (there : HasPlace s.slots k l) (q : ℕ) (is_q : q ≡ place_at s.slots.items k l) (zero : q ≡ 0) where
  abbrev some_slot : PlacedRow
  some_slot = first_of s.slots.items k there.in_slots

  abbrev slot_at : PlacedRow
  slot_at = get_or s.slots.items k some_slot

  slot_at_is : slot_at ≡ get_or s.slots.items k slot_at
  slot_at_is = get_or_default s.slots.items k some_slot slot_at there.in_slots

  unset_at : get_or slot_at.places l 0 ≡ 0
  unset_at = sym (place_is s kept k l there slot_at slot_at_is) ∙ sym is_q ∙ zero

  pub one_at : 1 ≤ s.unentered
  one_at = one_unentered s kept k l there slot_at slot_at_is unset_at

  pub fits_at : length s.lines.items < s.lines.capacity
  fits_at = fits s kept k l there slot_at slot_at_is unset_at

  pub IsEntered-at : (n : ℕ) (lines : Reserved (List ℕ)) (slots : PlacedRows) → n ≡ length s.lines.items → lines.items ≡ s.lines.items ++ zero_line ∷ [] → lines.capacity ≡ s.lines.capacity → slots.width ≡ s.slots.width → ((d : PlacedRow) → slots.items ≡ set s.slots.items k (placed (get_or s.slots.items k d) l n)) → IsEntered s (record s { slots = slots; lines = lines; unentered = s.unentered - 1 }) k l n
  IsEntered-at n lines slots is_n pushed same_room width items =
      let t = slot_at in
      let is = slot_at_is in
      let unset = unset_at in
      let less : (s.unentered - 1) + 1 ≡ s.unentered = let one = one_at in omega arith in
      let set_here = items some_slot in
      record {
        kept = IsKept-left s kept k l there t is unset n (s.unentered - 1) lines is_n less pushed same_room slots width set_here;
        there = HasPlace-left s kept k l there t is unset n (s.unentered - 1) lines is_n less pushed same_room slots width set_here;
        place = place_at-left s kept k l there t is unset n (s.unentered - 1) lines is_n less pushed same_room slots width set_here;
        rows = stored_rows-left s kept k l there t is unset n (s.unentered - 1) lines is_n less pushed same_room slots width set_here;
      }

-- ---- a line of the stored rows
module _ (s : Store) (kept : IsKept s) (k l : ℕ) (there : HasPlace s.slots k l) (d : StoredRow) where
  row_is : (t : PlacedRow) → (get_or (stored_rows s) k d).lines ≡ map (line_at s.lines.items) (get_or s.slots.items k t).places
  row_is t = ap (λ (r : StoredRow). r.lines) (get_or-map (stored_of s.lines.items) s.slots.items k t d there.in_slots)

  long_places : (t : PlacedRow) → l < length (get_or s.slots.items k t).places
  long_places t =
      let whole : length (get_or s.slots.items k t).places ≡ s.slots.width = kept.whole k t there.in_slots in
      omega (arith, there.in_row)

  pub line_of_rows : get_or (get_or (stored_rows s) k d).lines l zero_line ≡ line_at s.lines.items (place_at s.slots.items k l)
  line_of_rows =
      let t = first_of s.slots.items k there.in_slots in
      ap (λ ls. get_or ls l zero_line) (row_is t)
      ∙ get_or-map (line_at s.lines.items) (get_or s.slots.items k t).places l 0 zero_line (long_places t)
      ∙ ap (line_at s.lines.items) (sym (place_at_slot s.slots.items k l t there.in_slots))

  pub row_long : l < length (get_or (stored_rows s) k d).lines
  row_long =
      let t = first_of s.slots.items k there.in_slots in
      rw (row_is t, length-map (get_or s.slots.items k t).places (line_at s.lines.items)) (long_places t)
