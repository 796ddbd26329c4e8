-- The order of the slots after a request is put into one, or taken out.
use Rattle.std.proofs.Common.{◌≡◌, ◌≢◌, ℕ, zero, suc, ◌+◌, ◌-◌, ◌<◌, ◌≤◌, Bool, true, false, cond, eqb, ltb, List, [], ◌∷◌, ◌++◌, length, map, take, drop, get_or, set, Option, Some, None, refl, sym, ap, ◌∙◌, inl, inr, arith, add-one, get_or-set_other, get_or-set_same}
use Rattle.std.specs.List.{filter_map, slice_get, remove}
use Rattle.std.specs.Option.{option_flatten, option_map}
use Rattle.std.proofs.lemmas.Bool.{cases_Bool, cond-true, cond-false, eqb-true, eq-eqb, ltb-false, ltb-true, lt-ltb, le-ltb}
use Rattle.std.proofs.lemmas.List.{map-append, take_more, drop_more, take-append-le, append_assoc, get_or_append_left, get_or_push, length-set, length-map, length-append, length_push, length-take-le}
use Rattle.std.proofs.lemmas.List.Edits.{length-remove, get_or-remove_below, get_or-remove_above}
use Rattle.std.proofs.lemmas.Option.{get_or_from_slice_get, slice_get_within}
use Rattle.ddr_hazards.specs.declared.slots.Slots.{Slots}
use Rattle.ddr_hazards.specs.declared.slots.TheConstants.{CAPACITY}
use Rattle.ddr_hazards.specs.declared.waiting.Waiting.{Waiting}
use Rattle.ddr_hazards.specs.Slots.{at, in_slots, lowered, taken, IsOrdered}
use Rattle.ddr_hazards.proofs.SlotLemmas.{filter_map-holds, map-same, at-set, map-remove, slice_get-take, slice_get-remove_below, slice_get-remove_from, Apart}

-- what the order says of a taken slot
pub record Stands (s : Slots) (i t : ℕ) : Type 0 where
  pub taken : i < s.len
  pub in_order : get_or s.order i 0 ≡ t
  pub place : get_or s.places t 0 ≡ i
  pub slot : t < CAPACITY

pub stands : (s : Slots) (i t : ℕ) → IsOrdered s → slice_get (taken s) i ≡ Some t → Stands s i t
stands s i t ordered there =
    let inside = slice_get-take s.order s.len i t there in
    let in_order : get_or s.order i 0 ≡ t = get_or_from_slice_get s.order i t 0 inside.1 in
    let within : i < CAPACITY = omega (arith, inside.0, ordered.len) in record {
      taken = inside.0;
      in_order = in_order;
      place = ap (λ u. get_or s.places u 0) (sym in_order) ∙ ordered.place i within;
      slot = omega (arith, in_order, ordered.slot i within);
    }

pub taken_apart : (s : Slots) → IsOrdered s → Apart (taken s)
taken_apart s ordered i j t a b = sym ((stands s i t ordered a).place) ∙ (stands s j t ordered b).place

whole : (f : ℕ → Option Waiting) (P : List ℕ) (ws : List Waiting) → map f P ≡ map Some ws → map f P ≡ map Some (filter_map f P)
whole f P ws holds = holds ∙ ap (map Some) (sym (filter_map-holds f P ws holds))

pub record Pushed (a b : Slots) (w : Waiting) : Type 0 where
  pub ordered : IsOrdered a
  pub room : a.len < CAPACITY
  pub cells : b.cells.items ≡ set a.cells.items (get_or a.order a.len 0) (Some w)
  pub order : b.order ≡ a.order
  pub places : b.places ≡ a.places
  pub len : b.len ≡ a.len + 1

pub at-push : (a b : Slots) (w : Waiting) → Pushed a b w → (t : ℕ) → at b t ≡ cond (eqb t (get_or a.order a.len 0)) (Some w) (at a t)
at-push a b w p t =
    let within : get_or a.order a.len 0 < length a.cells.items = omega (arith, p.ordered.cells, p.ordered.slot a.len p.room) in
    ap (λ cells. option_flatten (slice_get cells t)) p.cells ∙ at-set a.cells.items (get_or a.order a.len 0) t (Some w) within

pub taken-push : (a b : Slots) (w : Waiting) → Pushed a b w → taken b ≡ taken a ++ get_or a.order a.len 0 ∷ []
taken-push a b w p =
    let within : a.len < length a.order = omega (arith, p.ordered.order, p.room) in
    (λ i. take (p.len i) (p.order i)) ∙ take_more a.order a.len 0 within

-- the slots that were taken hold what they held
pub others-push : (a b : Slots) (w : Waiting) → Pushed a b w → (i t : ℕ) → slice_get (taken a) i ≡ Some t → at b t ≡ at a t
others-push a b w p i t there =
    let slot = get_or a.order a.len 0 in
    let s = stands a i t p.ordered there in
    elim (cases_Bool (eqb t slot)) [
      | inl e ↦
          let same : t ≡ slot = eqb-true t slot e in
          let last : get_or a.places slot 0 ≡ a.len = p.ordered.place a.len p.room in
          let twice : i ≡ a.len = sym s.place ∙ ap (λ u. get_or a.places u 0) same ∙ last in
          absurd (omega (arith, s.taken, twice))
      | inr e ↦ at-push a b w p t ∙ cond-false (eqb t slot) _ _ e
    ]

pub new-push : (a b : Slots) (w : Waiting) → Pushed a b w → at b (get_or a.order a.len 0) ≡ Some w
new-push a b w p =
    let slot = get_or a.order a.len 0 in
    at-push a b w p slot ∙ cond-true (eqb slot slot) (Some w) _ (eq-eqb slot slot refl)

holds-push : (a b : Slots) (w : Waiting) → Pushed a b w → map (at b) (taken b) ≡ map Some (in_slots a ++ w ∷ [])
holds-push a b w p =
    ap (map (at b)) (taken-push a b w p) ∙ map-append (at b) (taken a) (get_or a.order a.len 0 ∷ [])
    ∙ (λ i. map-same (at a) (at b) (taken a) (others-push a b w p) i ++ new-push a b w p i ∷ [])
    ∙ ap (λ os. os ++ Some w ∷ []) p.ordered.full ∙ sym (map-append Some (in_slots a) (w ∷ []))

pub in_slots-push : (a b : Slots) (w : Waiting) → Pushed a b w → in_slots b ≡ in_slots a ++ w ∷ []
in_slots-push a b w p = filter_map-holds (at b) (taken b) (in_slots a ++ w ∷ []) (holds-push a b w p)

pub IsOrdered-push : (a b : Slots) (w : Waiting) → Pushed a b w → IsOrdered b
IsOrdered-push a b w p = record {
  cells = ap length p.cells ∙ length-set a.cells.items (get_or a.order a.len 0) (Some w) ∙ p.ordered.cells;
  order = ap length p.order ∙ p.ordered.order;
  places = ap length p.places ∙ p.ordered.places;
  len = omega (arith, p.len, p.room);
  slot = λ i within. rw p.order (p.ordered.slot i within);
  place = λ i within. rw (p.order, p.places) (p.ordered.place i within);
  full = whole (at b) (taken b) (in_slots a ++ w ∷ []) (holds-push a b w p);
}

pub record Removed (a b : Slots) (p s : ℕ) : Type 0 where
  pub ordered : IsOrdered a
  pub there : slice_get (taken a) p ≡ Some s
  pub cells : b.cells.items ≡ set a.cells.items s None
  pub order : b.order ≡ take p a.order ++ (drop 1 (drop p a.order) ++ take 1 (drop p a.order))
  pub places : b.places ≡ set (map (lowered p) a.places) s 63
  pub len : b.len + 1 ≡ a.len

pub at-remove : (a b : Slots) (p s : ℕ) → Removed a b p s → (t : ℕ) → at b t ≡ cond (eqb t s) None (at a t)
at-remove a b p s r t =
    let st = stands a p s r.ordered r.there in
    let within : s < length a.cells.items = omega (arith, r.ordered.cells, st.slot) in
    ap (λ cells. option_flatten (slice_get cells t)) r.cells ∙ at-set a.cells.items s t None within

order_is : (a b : Slots) (p s : ℕ) → Removed a b p s → b.order ≡ remove a.order p ++ s ∷ []
order_is a b p s r =
    let st = stands a p s r.ordered r.there in
    let within : p < length a.order = omega (arith, r.ordered.order, r.ordered.len, st.taken) in
    let more : drop p a.order ≡ s ∷ drop (suc p) a.order = drop_more a.order p 0 within ∙ (λ i. st.in_order i ∷ drop (add-one p i) a.order) in
    r.order ∙ ap (λ xs. take p a.order ++ (drop 1 xs ++ take 1 xs)) more ∙ sym (append_assoc (take p a.order) (drop (suc p) a.order) (s ∷ []))

take-remove : (xs ys : List ℕ) (p n : ℕ) → p ≤ n → suc n ≤ length xs → take n (remove xs p ++ ys) ≡ remove (take (suc n) xs) p
take-remove [] ys p n below within = absurd (omega arith)
take-remove (x ∷ xs) ys zero n below within = let h : n ≤ length xs = omega arith in take-append-le n xs ys h
take-remove (x ∷ xs) ys (suc p) zero below within = absurd (omega arith)
take-remove (x ∷ xs) ys (suc p) (suc n) below within = ap (λ zs. x ∷ zs) (take-remove xs ys p n (omega arith) (omega arith))

pub taken-remove : (a b : Slots) (p s : ℕ) → Removed a b p s → taken b ≡ remove (taken a) p
taken-remove a b p s r =
    let st = stands a p s r.ordered r.there in
    let one : a.len ≡ suc b.len = omega (arith, r.len) in
    let below : p ≤ b.len = omega (arith, st.taken, r.len) in
    let within : suc b.len ≤ length a.order = omega (arith, r.ordered.order, r.ordered.len, r.len) in
    ap (take b.len) (order_is a b p s r) ∙ take-remove a.order (s ∷ []) p b.len below within ∙ ap (λ n. remove (take n a.order) p) (sym one)

-- the other slots hold what they held
pub others-remove : (a b : Slots) (p s : ℕ) → Removed a b p s → (i t : ℕ) → slice_get (taken b) i ≡ Some t → at b t ≡ at a t
others-remove a b p s r i t here =
    let left : slice_get (remove (taken a) p) i ≡ Some t = ap (λ xs. slice_get xs i) (sym (taken-remove a b p s r)) ∙ here in
    elim (cases_Bool (eqb t s)) [
      | inl e ↦
          let same : t ≡ s = eqb-true t s e in
          elim (cases_Bool (ltb i p)) [
            | inl low ↦
                let before : i < p = ltb-true i p low in
                let was : slice_get (taken a) i ≡ Some s = sym (slice_get-remove_below (taken a) p i before) ∙ left ∙ ap Some same in
                let twice : i ≡ p = taken_apart a r.ordered i p s was r.there in
                absurd (omega (arith, before, twice))
            | inr high ↦
                let behind : p ≤ i = ltb-false i p high in
                let was : slice_get (taken a) (suc i) ≡ Some s = sym (slice_get-remove_from (taken a) p i behind) ∙ left ∙ ap Some same in
                let twice : suc i ≡ p = taken_apart a r.ordered (suc i) p s was r.there in
                absurd (omega (arith, behind, twice))
          ]
      | inr e ↦ at-remove a b p s r t ∙ cond-false (eqb t s) None _ e
    ]

pub holds-remove : (a b : Slots) (p s : ℕ) → Removed a b p s → map (at b) (taken b) ≡ map Some (remove (in_slots a) p)
holds-remove a b p s r =
    map-same (at a) (at b) (taken b) (others-remove a b p s r)
    ∙ ap (map (at a)) (taken-remove a b p s r) ∙ map-remove (at a) (taken a) p ∙ ap (λ os. remove os p) r.ordered.full ∙ sym (map-remove Some (in_slots a) p)

pub in_slots-remove : (a b : Slots) (p s : ℕ) → Removed a b p s → in_slots b ≡ remove (in_slots a) p
in_slots-remove a b p s r = filter_map-holds (at b) (taken b) (remove (in_slots a) p) (holds-remove a b p s r)

lowered_above : (p n : ℕ) → p < n → lowered p n ≡ n - 1
lowered_above p n above = cond-true (ltb p n) (n - 1) n (lt-ltb p n above)

lowered_below : (p n : ℕ) → n ≤ p → lowered p n ≡ n
lowered_below p n below = cond-false (ltb p n) (n - 1) n (le-ltb p n below)

get_or-map-lowered : (p : ℕ) (xs : List ℕ) (t : ℕ) → t < length xs → get_or (map (lowered p) xs) t 0 ≡ lowered p (get_or xs t 0)
get_or-map-lowered p [] t within = absurd (omega arith)
get_or-map-lowered p (x ∷ xs) zero within = refl
get_or-map-lowered p (x ∷ xs) (suc t) within = get_or-map-lowered p xs t (omega arith)

-- each place of the new order
record PlaceOf (b : Slots) (i : ℕ) : Type 0 where
  slot : get_or b.order i 0 < CAPACITY
  place : get_or b.places (get_or b.order i 0) 0 ≡ i

other_place : (a b : Slots) (p s i j t : ℕ) → Removed a b p s → j < CAPACITY → j ≢ p → get_or a.order j 0 ≡ t → get_or b.order i 0 ≡ t → lowered p j ≡ i → PlaceOf b i
other_place a b p s i j t r within apart was is low =
    let st = stands a p s r.ordered r.there in
    let slot : t < CAPACITY = omega (arith, was, r.ordered.slot j within) in
    let place : get_or a.places t 0 ≡ j = ap (λ u. get_or a.places u 0) (sym was) ∙ r.ordered.place j within in
    let other : t ≢ s = λ same. apart (sym place ∙ ap (λ u. get_or a.places u 0) same ∙ st.place) in
    let inside : t < length a.places = omega (arith, slot, r.ordered.places) in record {
      slot = omega (arith, is, slot);
      place = ap (λ u. get_or b.places u 0) is ∙ ap (λ ps. get_or ps t 0) r.places ∙ get_or-set_other (map (lowered p) a.places) s t 63 0 other
          ∙ get_or-map-lowered p a.places t inside ∙ ap (lowered p) place ∙ low;
    }

place_of : (a b : Slots) (p s i : ℕ) → Removed a b p s → i < CAPACITY → PlaceOf b i
place_of a b p s i r within =
    let st = stands a p s r.ordered r.there in
    let inside : p < length a.order = omega (arith, r.ordered.order, r.ordered.len, st.taken) in
    let long : length (remove a.order p) + 1 ≡ length a.order = length-remove a.order p inside in
    let size : length a.order ≡ 64 = r.ordered.order in
    elim (cases_Bool (ltb i p)) [
      | inl low ↦
          let before : i < p = ltb-true i p low in
          let short : i < length (remove a.order p) = omega (arith, long, inside, before) in
          other_place a b p s i i (get_or a.order i 0) r within (λ same. absurd (omega (arith, before, same))) refl
          (ap (λ xs. get_or xs i 0) (order_is a b p s r) ∙ get_or_append_left (remove a.order p) (s ∷ []) 0 i short ∙ get_or-remove_below a.order p 0 i before inside)
          (lowered_below p i (omega (arith, before)))
      | inr high ↦
          let behind : p ≤ i = ltb-false i p high in
          elim (cases_Bool (ltb i 63)) [
            | inl low ↦
                let below : i < 63 = ltb-true i 63 low in
                let short : i < length (remove a.order p) = omega (arith, long, size, below) in
                let above : p < i + 1 = omega (arith, behind) in
                let back : i + 1 - 1 ≡ i = omega arith in
                other_place a b p s i (i + 1) (get_or a.order (i + 1) 0) r (omega (arith, below)) (λ same. absurd (omega (arith, behind, same))) refl
                (ap (λ xs. get_or xs i 0) (order_is a b p s r) ∙ get_or_append_left (remove a.order p) (s ∷ []) 0 i short ∙ get_or-remove_above a.order p 0 i behind inside)
                (lowered_above p (i + 1) above ∙ back)
            | inr last ↦
                let end : 63 ≤ i = ltb-false i 63 last in
                let is : i ≡ 63 = omega (arith, end, within) in
                let room : length (remove a.order p) ≡ i = omega (arith, long, size, is) in
                let here : get_or b.order i 0 ≡ s = ap (λ xs. get_or xs i 0) (order_is a b p s r) ∙ get_or_push (remove a.order p) s 0 i room in
                let inside_too : s < length (map (lowered p) a.places) = omega (arith, length-map a.places (lowered p), r.ordered.places, st.slot) in record {
                  slot = omega (arith, here, st.slot);
                  place = ap (λ u. get_or b.places u 0) here ∙ ap (λ ps. get_or ps s 0) r.places ∙ get_or-set_same (map (lowered p) a.places) s 63 0 inside_too ∙ sym is;
                }
          ]
    ]

pub IsOrdered-remove : (a b : Slots) (p s : ℕ) → Removed a b p s → IsOrdered b
IsOrdered-remove a b p s r =
    let st = stands a p s r.ordered r.there in
    let inside : p < length a.order = omega (arith, r.ordered.order, r.ordered.len, st.taken) in record {
      cells = ap length r.cells ∙ length-set a.cells.items s None ∙ r.ordered.cells;
      order = omega (arith, ap (length {A = ℕ}) (order_is a b p s r), length_push (remove a.order p) s, length-remove a.order p inside, r.ordered.order);
      places = ap length r.places ∙ length-set (map (lowered p) a.places) s 63 ∙ length-map a.places (lowered p) ∙ r.ordered.places;
      len = omega (arith, r.len, r.ordered.len);
      slot = λ i within. (place_of a b p s i r within).slot;
      place = λ i within. (place_of a b p s i r within).place;
      full = whole (at b) (taken b) (remove (in_slots a) p) (holds-remove a b p s r);
    }
