-- What the fields keep, and what admission and removal leave of it.
use Rattle.std.proofs.Common.{◌≡◌, ◌≢◌, ℕ, suc, ◌+◌, ◌-◌, ◌<◌, ◌≤◌, Bool, true, false, cond, eqb, ltb, List, [], ◌∷◌, ◌++◌, length, get_or, set, All, Option, Some, None, refl, sym, ap, ◌∙◌, inl, inr, arith, take, drop, get_or-set_other, get_or-set_same}
use Rattle.std.specs.List.{filter, count_by, position_or_len, remove, slice_get}
use Rattle.std.specs.Option.{option_map_or}
use Rattle.std.proofs.lemmas.Bool.{cases_Bool, cond-true, cond-false, leb-false, ltb-true, ltb-false, eqb-true, eq-eqb, false≢true}
use Rattle.std.proofs.lemmas.List.{length-set, length-append, append-nil}
use Rattle.std.proofs.lemmas.List.Elements.{All-append, All-take, All-drop, All-push, All-filter, filter-append}
use Rattle.std.proofs.lemmas.List.Sums.{length-filter, count_by-le-length}
use Rattle.std.proofs.lemmas.Option.{slice_get_within, same_Some, get_or_from_slice_get, slice_get-get_or}
use Rattle.arrayvec.specs.ArrayVec.{ArrayVec}
use Rattle.ddr_address_map.specs.declared.place.Place.{Place}
use Rattle.ddr_address_map.specs.declared.request.Kind.{Kind}
use Rattle.ddr_address_map.specs.declared.request.Kind.TheVariants.{Read, Write}
use Rattle.ddr_hazards.specs.declared.banks.TheConstants.{BANKS}
use Rattle.ddr_hazards.specs.declared.counts.KindCounts.{KindCounts}
use Rattle.ddr_hazards.specs.declared.pending.Pending.TheInside.{Inside}
use Rattle.ddr_hazards.specs.declared.slots.TheConstants.{CAPACITY}
use Rattle.ddr_hazards.specs.declared.waiting.Waiting.{Waiting}
use Rattle.ddr_timing.specs.declared.units.TheConstants.{GROUP_BANKS, MOST_GROUPS}
use Rattle.ddr_hazards.specs.Banks.{bank_number, bank_slots, in_bank, number, with_slots}
use Rattle.ddr_hazards.specs.Counts.{count_of, one_of}
use Rattle.ddr_hazards.specs.Hazards.{hazard_count, is_same_line}
use Rattle.ddr_hazards.specs.PendingList.{PendingList, pending_count, is_full, IsInRank, IsWithinLimits}
use Rattle.ddr_hazards.specs.Slots.{at, count_less, in_slots, is_bank, is_line, taken, IsOrdered}
use Rattle.ddr_hazards.specs.View.{pending_list, IsSound}
use Rattle.ddr_hazards.proofs.BankLemmas.{Numbers, none_at, number_is, some_at}
use Rattle.ddr_hazards.proofs.CountLemmas.{one_of-same, both_kinds, pending_count-push, pending_count-remove}
use Rattle.ddr_hazards.proofs.HazardLemmas.{hazard_count-front, hazard_count-last, hazard_count-remove_below, hazard_count-remove_from, get_or-count_less, slice_get-front, slice_get-last}
use Rattle.ddr_hazards.proofs.Lines.{same_line, same_line-comm, SameLine}
use Rattle.ddr_hazards.proofs.Order.{taken_apart, stands}
use Rattle.ddr_hazards.proofs.SlotLemmas.{Holds, held_at, filter-same, filter-remove_out, without, slice_get-remove_below, slice_get-remove_from, count_behind, count_before, count-filter, count-within, count-held, length-held, length-holds}

pub within_limits : (a : Inside) → IsSound a → IsWithinLimits (pending_list a)
within_limits a sound =
    let reads : pending_count Read (in_slots a.slots) ≤ a.limits.reads = omega (arith, sound.counted Read, sound.fits Read) in
    let writes : pending_count Write (in_slots a.slots) ≤ a.limits.writes = omega (arith, sound.counted Write, sound.fits Write) in record {
      reads = reads;
      writes = writes;
      kinds = both_kinds (in_slots a.slots);
      length = omega (arith, both_kinds (in_slots a.slots));
      read_limit = sound.limited Read;
      write_limit = sound.limited Write;
      in_rank = sound.in_rank;
    }

-- as many slots are taken as requests are pending
pub length-slots : (a : Inside) → IsSound a → a.slots.len ≡ length (in_slots a.slots)
length-slots a sound = length-holds a.slots.order a.slots.len (at a.slots) (in_slots a.slots) (omega (arith, sound.ordered.len, sound.ordered.order)) sound.ordered.full

-- there is room for a request whose queue is not full
pub has_room : (a : Inside) (kind : Kind) → IsSound a → is_full (pending_list a) kind ≡ false → count_of a.counts kind + 1 ≤ count_of a.limits kind
has_room a Read sound room = omega (arith, sound.counted Read, leb-false a.limits.reads (pending_count Read (in_slots a.slots)) room)
has_room a Write sound room = omega (arith, sound.counted Write, leb-false a.limits.writes (pending_count Write (in_slots a.slots)) room)

-- and so there is a free slot
pub below_capacity : (a : Inside) (kind : Kind) → IsSound a → is_full (pending_list a) kind ≡ false → a.slots.len < CAPACITY
below_capacity a Read sound room =
    let within = within_limits a sound in
    omega (arith, has_room a Read sound room, sound.counted Read, within.writes, within.read_limit, within.write_limit, both_kinds (in_slots a.slots), length-slots a sound)
below_capacity a Write sound room =
    let within = within_limits a sound in
    omega (arith, has_room a Write sound room, sound.counted Write, within.reads, within.read_limit, within.write_limit, both_kinds (in_slots a.slots), length-slots a sound)

-- a request that is there is counted
pub counts_one : (a : Inside) (place : ℕ) (w : Waiting) (mine : Kind) → IsSound a → mine ≡ w.request.echo.kind
    → slice_get (in_slots a.slots) place ≡ Some w → 1 ≤ count_of a.counts mine
counts_one a place w mine sound is there =
    omega (arith, sound.counted mine, pending_count-remove mine (in_slots a.slots) place w there, ap (one_of mine) is, one_of-same mine)

-- each queue has room for its share of a request that has room in its own
fits-add : (kind mine : Kind) (counts limits : KindCounts) → count_of counts mine + 1 ≤ count_of limits mine → count_of counts kind ≤ count_of limits kind
    → count_of counts kind + one_of kind mine ≤ count_of limits kind
fits-add Read Read counts limits room fits = room
fits-add Write Write counts limits room fits = room
fits-add Read Write counts limits room fits = omega arith
fits-add Write Read counts limits room fits = omega arith

pub list_eq : {p q : PendingList} → p.waiting ≡ q.waiting → p.read_limit ≡ q.read_limit → p.write_limit ≡ q.write_limit → p ≡ q
list_eq waiting reads writes = λ i. record { waiting = waiting i; read_limit = reads i; write_limit = writes i }

abbrev InRank : Waiting → Type 0
InRank w = IsInRank w.request.place

in_rank-remove : (waiting : List Waiting) (place : ℕ) → All InRank waiting → All InRank (remove waiting place)
in_rank-remove waiting place in_rank =
    All-append InRank (take place waiting) (drop (suc place) waiting) (All-take InRank place waiting in_rank) (All-drop InRank (suc place) waiting in_rank)

-- the list of a bank after a write to that of one
slots_same : (lists : List (ArrayVec ℕ)) (n : ℕ) (xs : List ℕ) → n < length lists → bank_slots (with_slots lists n xs) n ≡ xs
slots_same lists n xs within = ap (λ v. v.items) (get_or-set_same lists n (record { items = xs }) (record { items = [] }) within)

slots_other : (lists : List (ArrayVec ℕ)) (n m : ℕ) (xs : List ℕ) → m ≢ n → bank_slots (with_slots lists n xs) m ≡ bank_slots lists m
slots_other lists n m xs other = ap (λ v. v.items) (get_or-set_other lists n m (record { items = xs }) (record { items = [] }) other)

-- a request to the line of a place is to its bank
line_of : (p : Place) (o : Option Waiting) → option_map_or (λ w. is_same_line w.request.place p) o false ≡ true →
    option_map_or (λ w. eqb (bank_number w.request.place) (bank_number p)) o false ≡ true
line_of p None is = absurd (false≢true is)
line_of p (Some w) is =
    let same : SameLine w.request.place p = same_line w.request.place p is in
    let number : bank_number w.request.place ≡ bank_number p = omega (arith, same.rank, same.group, same.bank) in
    eq-eqb (bank_number w.request.place) (bank_number p) number

line_in_bank : (f : Holds) (p : Place) (t : ℕ) → is_line f p t ≡ true → is_bank f (bank_number p) t ≡ true
line_in_bank f p t is = line_of p (f t) is

-- a request is put into a slot
pub record Admitted (a b : Inside) (w : Waiting) (slot : ℕ) : Type 0 where
  pub sound : IsSound a
  pub ordered : IsOrdered b.slots
  pub order : taken b.slots ≡ taken a.slots ++ slot ∷ []
  pub held : in_slots b.slots ≡ in_slots a.slots ++ w ∷ []
  pub one : at b.slots slot ≡ Some w
  pub others : (i t : ℕ) → slice_get (taken a.slots) i ≡ Some t → at b.slots t ≡ at a.slots t
  pub in_rank : IsInRank w.request.place
  pub hazards : b.hazards ≡ set a.hazards slot (count_by (is_line (at a.slots) w.request.place) (bank_slots a.banks.lists (bank_number w.request.place)))
  pub banks : let n = bank_number w.request.place in b.banks.lists ≡ with_slots a.banks.lists n (bank_slots a.banks.lists n ++ slot ∷ [])
  pub limits : b.limits ≡ a.limits

pub bank_below : (p : Place) → IsInRank p → bank_number p < BANKS
bank_below p in_rank = omega (arith, in_rank.0, in_rank.1, in_rank.2)

-- a bank has no more slots than are taken
pub bank_short : (a : Inside) (bank : ℕ) → IsSound a → bank < BANKS → length (bank_slots a.banks.lists bank) ≤ a.slots.len
bank_short a bank sound below =
    omega (
      arith,
      ap (length {A = ℕ}) (sound.listed bank below),
      length-filter (is_bank (at a.slots) bank) (taken a.slots),
      count_by-le-length (is_bank (at a.slots) bank) (taken a.slots),
      length-held (at a.slots) (taken a.slots) (in_slots a.slots) sound.ordered.full,
      length-slots a sound,
    )

listed-push : (a b : Inside) (w : Waiting) (slot : ℕ) → Admitted a b w slot → (bank : ℕ) → bank < BANKS →
    bank_slots b.banks.lists bank ≡ filter (is_bank (at b.slots) bank) (taken b.slots)
listed-push a b w slot m bank below =
    let n = bank_number w.request.place in
    let f = at a.slots in
    let g = at b.slots in
    let P = taken a.slots in
    let inside : n < length a.banks.lists = omega (arith, m.sound.banks, bank_below w.request.place m.in_rank) in
    let front : filter (is_bank g bank) P ≡ filter (is_bank f bank) P =
    filter-same (is_bank f bank) (is_bank g bank) P (λ i t there. ap (λ o. option_map_or (λ v. eqb (bank_number v.request.place) bank) o false) (m.others i t there)) in
    let own : is_bank g bank slot ≡ eqb n bank = ap (λ o. option_map_or (λ v. eqb (bank_number v.request.place) bank) o false) m.one in
    let whole : filter (is_bank g bank) (taken b.slots) ≡ filter (is_bank f bank) P ++ cond (eqb n bank) (slot ∷ []) [] =
    ap (filter (is_bank g bank)) m.order ∙ filter-append (is_bank g bank) P (slot ∷ []) ∙ (λ i. front i ++ cond (own i) (slot ∷ []) []) in
    elim (cases_Bool (eqb n bank)) [
      | inl e ↦
          let same : n ≡ bank = eqb-true n bank e in
          (λ i. bank_slots (m.banks i) (sym same i)) ∙ slots_same a.banks.lists n (bank_slots a.banks.lists n ++ slot ∷ []) inside
          ∙ ap (λ xs. xs ++ slot ∷ []) (ap (bank_slots a.banks.lists) same ∙ m.sound.listed bank below)
          ∙ sym (whole ∙ ap (λ xs. filter (is_bank f bank) P ++ xs) (cond-true (eqb n bank) (slot ∷ []) [] e))
      | inr e ↦
          let other : bank ≢ n = λ same. false≢true (sym e ∙ eq-eqb n bank (sym same)) in
          ap (λ lists. bank_slots lists bank) m.banks ∙ slots_other a.banks.lists n bank (bank_slots a.banks.lists n ++ slot ∷ []) other
          ∙ m.sound.listed bank below
          ∙ sym (whole ∙ ap (λ xs. filter (is_bank f bank) P ++ xs) (cond-false (eqb n bank) (slot ∷ []) [] e) ∙ append-nil (filter (is_bank f bank) P))
    ]

length-taken : (a : Inside) → IsSound a → length (taken a.slots) ≡ length (in_slots a.slots)
length-taken a sound = length-held (at a.slots) (taken a.slots) (in_slots a.slots) sound.ordered.full

-- the count of a new request is that of the requests to its line
older_is : (a b : Inside) (w : Waiting) (slot : ℕ) → Admitted a b w slot →
    count_by (is_line (at a.slots) w.request.place) (bank_slots a.banks.lists (bank_number w.request.place))
    ≡ hazard_count (in_slots a.slots ++ w ∷ []) (length (in_slots a.slots))
older_is a b w slot m =
    let p = w.request.place in
    ap (count_by (is_line (at a.slots) p)) (m.sound.listed (bank_number p) (bank_below p m.in_rank))
    ∙ count-within (is_line (at a.slots) p) (is_bank (at a.slots) (bank_number p)) (taken a.slots) (line_in_bank (at a.slots) p)
    ∙ count-held (λ older. is_same_line older.request.place p) (at a.slots) (taken a.slots) (in_slots a.slots) m.sound.ordered.full
    ∙ sym (hazard_count-last (in_slots a.slots) w)

hazards-push : (a b : Inside) (w : Waiting) (slot : ℕ) → Admitted a b w slot → (place t : ℕ) → slice_get (taken b.slots) place ≡ Some t →
    get_or b.hazards t 0 ≡ hazard_count (in_slots b.slots) place
hazards-push a b w slot m place t there =
    let P = taken a.slots in
    let ws = in_slots a.slots in
    let lengths : length P ≡ length ws = length-taken a m.sound in
    let here : slice_get (P ++ slot ∷ []) place ≡ Some t = ap (λ xs. slice_get xs place) (sym m.order) ∙ there in
    let last : slice_get (taken b.slots) (length P) ≡ Some slot = ap (λ xs. slice_get xs (length P)) m.order ∙ slice_get-last P slot in
    let st = stands b.slots (length P) slot m.ordered last in
    let room : slot < length a.hazards = omega (arith, m.sound.lengths, st.slot) in
    let older = count_by (is_line (at a.slots) w.request.place) (bank_slots a.banks.lists (bank_number w.request.place)) in
    elim (cases_Bool (ltb place (length P))) [
      | inl low ↦
          let below : place < length P = ltb-true place (length P) low in
          let within : place < length ws = omega (arith, lengths, below) in
          let was : slice_get P place ≡ Some t = sym (slice_get-front P (slot ∷ []) place below) ∙ here in
          let other : t ≢ slot = λ same. absurd (omega (arith, below, taken_apart b.slots m.ordered place (length P) slot (there ∙ ap Some same) last)) in
          ap (λ hs. get_or hs t 0) m.hazards ∙ get_or-set_other a.hazards slot t older 0 other
          ∙ m.sound.hazards place t was ∙ sym (ap (λ vs. hazard_count vs place) m.held ∙ hazard_count-front ws (w ∷ []) place within)
      | inr high ↦
          let above : length P ≤ place = ltb-false place (length P) high in
          let inside = slice_get_within (taken b.slots) place t there in
          let is : place ≡ length P = omega (arith, above, inside, ap (length {A = ℕ}) m.order, length-append P (slot ∷ [])) in
          let same : t ≡ slot = same_Some t slot (sym there ∙ ap (slice_get (taken b.slots)) is ∙ last) in
          ap (λ hs. get_or hs t 0) m.hazards ∙ ap (λ u. get_or (set a.hazards slot older) u 0) same ∙ get_or-set_same a.hazards slot older 0 room
          ∙ older_is a b w slot m
          ∙ sym ((λ i. hazard_count (m.held i) (is i)) ∙ ap (hazard_count (ws ++ w ∷ [])) lengths)
    ]

pub IsSound-push : (a b : Inside) (w : Waiting) (slot : ℕ) (mine : Kind) → Admitted a b w slot → mine ≡ w.request.echo.kind → is_full (pending_list a) mine ≡ false
    → ((kind : Kind) → count_of b.counts kind ≡ count_of a.counts kind + one_of kind mine) → IsSound b
IsSound-push a b w slot mine m is room counts =
    let ws = in_slots a.slots in
    let n = bank_number w.request.place in
    let sound = m.sound in record {
      ordered = m.ordered;
      banks = ap length m.banks ∙ length-set a.banks.lists n (record { items = bank_slots a.banks.lists n ++ slot ∷ [] }) ∙ sound.banks;
      listed = listed-push a b w slot m;
      lengths = ap length m.hazards ∙ length-set a.hazards slot _ ∙ sound.lengths;
      hazards = hazards-push a b w slot m;
      counted = λ kind. omega (arith, counts kind, sound.counted kind, ap (one_of kind) is, pending_count-push kind ws w, ap (pending_count kind) m.held);
      fits = rw m.limits (λ kind. omega (arith, counts kind, fits-add kind mine a.counts a.limits (has_room a mine sound room) (sound.fits kind)));
      limited = rw m.limits sound.limited;
      in_rank = rw m.held (All-push InRank ws w sound.in_rank m.in_rank);
    }

-- a request that is in a slot
pub record At (a : Inside) (place : ℕ) (w : Waiting) (slot : ℕ) : Type 0 where
  pub sound : IsSound a
  pub there : slice_get (taken a.slots) place ≡ Some slot
  pub request : slice_get (in_slots a.slots) place ≡ Some w

-- a request is taken out of its slot
pub record Taken (a b : Inside) (place : ℕ) (w : Waiting) (slot : ℕ) : Type 0 where
  pub here : At a place w slot
  pub ordered : IsOrdered b.slots
  pub order : taken b.slots ≡ remove (taken a.slots) place
  pub held : in_slots b.slots ≡ remove (in_slots a.slots) place
  pub others : (i t : ℕ) → slice_get (taken b.slots) i ≡ Some t → at b.slots t ≡ at a.slots t
  pub banks : let n = bank_number w.request.place in let xs = bank_slots a.banks.lists n in
      b.banks.lists ≡ with_slots a.banks.lists n (remove xs (position_or_len (λ t. eqb t slot) xs))
  pub hazards : let n = bank_number w.request.place in
      b.hazards ≡ count_less (is_line (at b.slots) w.request.place) (drop (position_or_len (λ t. eqb t slot) (bank_slots a.banks.lists n)) (bank_slots b.banks.lists n)) a.hazards
  pub limits : b.limits ≡ a.limits

pub in_rank_of : (a : Inside) (place : ℕ) (w : Waiting) (slot : ℕ) → At a place w slot → IsInRank w.request.place
in_rank_of a place w slot r =
    let within = slice_get_within (in_slots a.slots) place w r.request in
    rw (get_or_from_slice_get (in_slots a.slots) place w w r.request) at (r.sound.in_rank place w within)

slot_holds : (a : Inside) (place : ℕ) (w : Waiting) (slot : ℕ) → At a place w slot → at a.slots slot ≡ Some w
slot_holds a place w slot r =
    let v = held_at (at a.slots) (taken a.slots) (in_slots a.slots) place slot r.sound.ordered.full r.there in
    v.1 ∙ sym v.2 ∙ r.request

bank_is : (a : Inside) (place : ℕ) (w : Waiting) (slot : ℕ) → At a place w slot → (bank : ℕ) →
    is_bank (at a.slots) bank slot ≡ eqb (bank_number w.request.place) bank
bank_is a place w slot r bank = ap (λ o. option_map_or (λ v. eqb (bank_number v.request.place) bank) o false) (slot_holds a place w slot r)

own_bank : (a : Inside) (place : ℕ) (w : Waiting) (slot : ℕ) → At a place w slot → is_bank (at a.slots) (bank_number w.request.place) slot ≡ true
own_bank a place w slot r = bank_is a place w slot r (bank_number w.request.place) ∙ eq-eqb (bank_number w.request.place) (bank_number w.request.place) refl

other_bank : (a : Inside) (place : ℕ) (w : Waiting) (slot : ℕ) → At a place w slot → (bank : ℕ) → eqb (bank_number w.request.place) bank ≡ false →
    is_bank (at a.slots) bank slot ≡ false
other_bank a place w slot r bank other = bank_is a place w slot r bank ∙ other

-- it stands in the list of its bank
pub index_in : (a : Inside) (place : ℕ) (w : Waiting) (slot : ℕ) → At a place w slot →
    let xs = bank_slots a.banks.lists (bank_number w.request.place) in position_or_len (λ t. eqb t slot) xs < length xs
index_in a place w slot r =
    let n = bank_number w.request.place in
    let out = without (is_bank (at a.slots) n) (taken a.slots) place slot (taken_apart a.slots r.sound.ordered) r.there (own_bank a place w slot r) in
    rw (r.sound.listed n (bank_below w.request.place (in_rank_of a place w slot r))) out.within

-- the list of its bank without it
pub slots_left : (lists after : List (ArrayVec ℕ)) (n i : ℕ) → n < length lists → after ≡ with_slots lists n (remove (bank_slots lists n) i) →
    bank_slots after n ≡ remove (bank_slots lists n) i
slots_left lists after n i within is = ap (λ ls. bank_slots ls n) is ∙ slots_same lists n (remove (bank_slots lists n) i) within

-- the slots of a bank are among those that there are
slots_in : (a : Inside) → IsSound a → All (λ t. t < CAPACITY) (taken a.slots)
slots_in a sound = λ k d within. (stands a.slots k (get_or (taken a.slots) k d) sound.ordered (slice_get-get_or (taken a.slots) k d within)).slot

pub behind_in : (a : Inside) (bank i j : ℕ) → IsSound a → bank < BANKS → All (λ t. t < CAPACITY) (drop i (remove (bank_slots a.banks.lists bank) j))
behind_in a bank i j sound below =
    let inside : ℕ → Type 0 = λ t. t < CAPACITY in
    let P = filter (is_bank (at a.slots) bank) (taken a.slots) in
    let all : All inside P = All-filter (is_bank (at a.slots) bank) inside (taken a.slots) (slots_in a sound) in
    rw (sound.listed bank below) (All-drop inside i (remove P j) (All-append inside (take j P) (drop (suc j) P) (All-take inside j P all) (All-drop inside (suc j) P all)))

kept_filter : (a b : Inside) (place : ℕ) (w : Waiting) (slot : ℕ) → Taken a b place w slot → (bank : ℕ) →
    filter (is_bank (at b.slots) bank) (taken b.slots) ≡ filter (is_bank (at a.slots) bank) (remove (taken a.slots) place)
kept_filter a b place w slot r bank =
    filter-same (is_bank (at a.slots) bank) (is_bank (at b.slots) bank) (taken b.slots)
    (λ i t here. ap (λ o. option_map_or (λ v. eqb (bank_number v.request.place) bank) o false) (r.others i t here))
    ∙ ap (filter (is_bank (at a.slots) bank)) r.order

-- what is left of the list of each bank
listed-remove : (a b : Inside) (place : ℕ) (w : Waiting) (slot : ℕ) → Taken a b place w slot → (bank : ℕ) → bank < BANKS →
    bank_slots b.banks.lists bank ≡ filter (is_bank (at b.slots) bank) (taken b.slots)
listed-remove a b place w slot r bank below =
    let n = bank_number w.request.place in
    let f = at a.slots in
    let P = taken a.slots in
    let own : is_bank f n slot ≡ true = own_bank a place w slot r.here in
    let below_n : n < BANKS = bank_below w.request.place (in_rank_of a place w slot r.here) in
    let inside : n < length a.banks.lists = omega (arith, r.here.sound.banks, below_n) in
    let left : filter (is_bank (at b.slots) bank) (taken b.slots) ≡ filter (is_bank f bank) (remove P place) = kept_filter a b place w slot r bank in
    let apart = taken_apart a.slots r.here.sound.ordered in
    elim (cases_Bool (eqb n bank)) [
      | inl e ↦
          let same : n ≡ bank = eqb-true n bank e in
          let out = without (is_bank f n) P place slot apart r.here.there own in
          (λ i. bank_slots (r.banks i) (sym same i)) ∙ slots_same a.banks.lists n (remove (bank_slots a.banks.lists n) (position_or_len (λ t. eqb t slot) (bank_slots a.banks.lists n))) inside
          ∙ ap (λ xs. remove xs (position_or_len (λ t. eqb t slot) xs)) (r.here.sound.listed n below_n)
          ∙ out.rest ∙ ap (λ m. filter (is_bank f m) (remove P place)) same ∙ sym left
      | inr e ↦
          let other : bank ≢ n = λ same. false≢true (sym e ∙ eq-eqb n bank (sym same)) in
          let not_own : is_bank f bank slot ≡ false = other_bank a place w slot r.here bank e in
          ap (λ lists. bank_slots lists bank) r.banks ∙ slots_other a.banks.lists n bank (remove (bank_slots a.banks.lists n) (position_or_len (λ t. eqb t slot) (bank_slots a.banks.lists n))) other
          ∙ r.here.sound.listed bank below ∙ sym (filter-remove_out (is_bank f bank) P place slot r.here.there not_own) ∙ sym left
    ]

-- the slots whose counts are lowered
behind_is : (a b : Inside) (place : ℕ) (w : Waiting) (slot : ℕ) → Taken a b place w slot →
    let n = bank_number w.request.place in
    drop (position_or_len (λ t. eqb t slot) (bank_slots a.banks.lists n)) (bank_slots b.banks.lists n) ≡ filter (is_bank (at a.slots) n) (drop (suc place) (taken a.slots))
behind_is a b place w slot r =
    let n = bank_number w.request.place in
    let f = at a.slots in
    let below_n : n < BANKS = bank_below w.request.place (in_rank_of a place w slot r.here) in
    let own : is_bank f n slot ≡ true = own_bank a place w slot r.here in
    let out = without (is_bank f n) (taken a.slots) place slot (taken_apart a.slots r.here.sound.ordered) r.here.there own in
    (λ i. drop (position_or_len (λ t. eqb t slot) (r.here.sound.listed n below_n i)) ((listed-remove a b place w slot r n below_n ∙ kept_filter a b place w slot r n) i)) ∙ out.behind

hazards-remove : (a b : Inside) (place : ℕ) (w : Waiting) (slot : ℕ) → Taken a b place w slot → (i t : ℕ) → slice_get (taken b.slots) i ≡ Some t →
    get_or b.hazards t 0 ≡ hazard_count (in_slots b.slots) i
hazards-remove a b place w slot r i t here =
    let n = bank_number w.request.place in
    let f = at a.slots in
    let P = taken a.slots in
    let ws = in_slots a.slots in
    let line = is_line (at b.slots) w.request.place in
    let apart = taken_apart a.slots r.here.sound.ordered in
    let st = stands b.slots i t r.ordered here in
    let room : t < length a.hazards = omega (arith, r.here.sound.lengths, st.slot) in
    let left : slice_get (remove P place) i ≡ Some t = ap (λ xs. slice_get xs i) (sym r.order) ∙ here in
    let line_is : line t ≡ is_line f w.request.place t = ap (λ o. option_map_or (λ v. is_same_line v.request.place w.request.place) o false) (r.others i t here) in
    let opened : get_or b.hazards t 0 ≡ get_or a.hazards t 0 - cond (line t) (count_by (λ u. eqb u t) (filter (is_bank f n) (drop (suc place) P))) 0 =
    ap (λ hs. get_or hs t 0) (r.hazards ∙ ap (λ ts. count_less line ts a.hazards) (behind_is a b place w slot r)) ∙ get_or-count_less line (filter (is_bank f n) (drop (suc place) P)) a.hazards t room in
    elim (cases_Bool (line t)) [
      | inl e ↦
          let passes : is_bank f n t ≡ true = line_in_bank f w.request.place t (sym line_is ∙ e) in
          let counted = count-filter (is_bank f n) (drop (suc place) P) t passes in
          elim (cases_Bool (ltb i place)) [
            | inl low ↦
                let before : i < place = ltb-true i place low in
                let was : slice_get P i ≡ Some t = sym (slice_get-remove_below P place i before) ∙ left in
                let none = count_before P (suc place) i t apart was (omega (arith, before)) in
                let same : get_or b.hazards t 0 ≡ get_or a.hazards t 0 =
                omega (arith, opened, cond-true (line t) (count_by (λ u. eqb u t) (filter (is_bank f n) (drop (suc place) P))) 0 e, counted, none) in
                same ∙ r.here.sound.hazards i t was ∙ sym (ap (λ vs. hazard_count vs i) r.held ∙ hazard_count-remove_below ws place i before)
            | inr high ↦
                let behind : place ≤ i = ltb-false i place high in
                let was : slice_get P (suc i) ≡ Some t = sym (slice_get-remove_from P place i behind) ∙ left in
                let once = count_behind P (suc place) (suc i) t apart was (omega (arith, behind)) in
                let v = held_at f P ws (suc i) t r.here.sound.ordered.full was in
                let one : is_same_line w.request.place v.0.request.place ≡ true =
                same_line-comm w.request.place v.0.request.place ∙ sym (ap (λ o. option_map_or (λ u. is_same_line u.request.place w.request.place) o false) v.1) ∙ sym line_is ∙ e in
                let less = hazard_count-remove_from ws place i w v.0 behind r.here.request v.2 in
                let count = r.here.sound.hazards (suc i) t was in
                let same : get_or b.hazards t 0 ≡ hazard_count (remove ws place) i =
                omega (arith, opened, cond-true (line t) (count_by (λ u. eqb u t) (filter (is_bank f n) (drop (suc place) P))) 0 e, counted, once, count, less, ap (λ k. cond {A = ℕ} k 1 0) one) in
                same ∙ sym (ap (λ vs. hazard_count vs i) r.held)
          ]
      | inr e ↦
          let kept : get_or b.hazards t 0 ≡ get_or a.hazards t 0 =
          omega (arith, opened, cond-false (line t) (count_by (λ u. eqb u t) (filter (is_bank f n) (drop (suc place) P))) 0 e) in
          elim (cases_Bool (ltb i place)) [
            | inl low ↦
                let before : i < place = ltb-true i place low in
                let was : slice_get P i ≡ Some t = sym (slice_get-remove_below P place i before) ∙ left in
                kept ∙ r.here.sound.hazards i t was ∙ sym (ap (λ vs. hazard_count vs i) r.held ∙ hazard_count-remove_below ws place i before)
            | inr high ↦
                let behind : place ≤ i = ltb-false i place high in
                let was : slice_get P (suc i) ≡ Some t = sym (slice_get-remove_from P place i behind) ∙ left in
                let v = held_at f P ws (suc i) t r.here.sound.ordered.full was in
                let none : is_same_line w.request.place v.0.request.place ≡ false =
                same_line-comm w.request.place v.0.request.place ∙ sym (ap (λ o. option_map_or (λ u. is_same_line u.request.place w.request.place) o false) v.1) ∙ sym line_is ∙ e in
                let less = hazard_count-remove_from ws place i w v.0 behind r.here.request v.2 in
                let count = r.here.sound.hazards (suc i) t was in
                let same : get_or b.hazards t 0 ≡ hazard_count (remove ws place) i = omega (arith, kept, count, less, ap (λ k. cond {A = ℕ} k 1 0) none) in
                same ∙ sym (ap (λ vs. hazard_count vs i) r.held)
          ]
    ]

length-count_less : (test : ℕ → Bool) (ts hazards : List ℕ) → length (count_less test ts hazards) ≡ length hazards
length-count_less test [] hazards = refl
length-count_less test (t ∷ ts) hazards = elim (cases_Bool (test t)) [
  | inl e ↦ ap (λ hs. length (count_less test ts hs)) (cond-true (test t) (set hazards t (get_or hazards t 0 - 1)) hazards e)
      ∙ length-count_less test ts (set hazards t (get_or hazards t 0 - 1)) ∙ length-set hazards t (get_or hazards t 0 - 1)
  | inr e ↦ ap (λ hs. length (count_less test ts hs)) (cond-false (test t) (set hazards t (get_or hazards t 0 - 1)) hazards e) ∙ length-count_less test ts hazards
]

pub IsSound-remove : (a b : Inside) (place : ℕ) (w : Waiting) (slot : ℕ) (mine : Kind) → Taken a b place w slot → mine ≡ w.request.echo.kind
    → ((kind : Kind) → count_of b.counts kind + one_of kind mine ≡ count_of a.counts kind) → IsSound b
IsSound-remove a b place w slot mine r is counts =
    let ws = in_slots a.slots in
    let n = bank_number w.request.place in
    let xs = bank_slots a.banks.lists n in
    let sound = r.here.sound in record {
      ordered = r.ordered;
      banks = ap length r.banks ∙ length-set a.banks.lists n (record { items = remove xs (position_or_len (λ t. eqb t slot) xs) }) ∙ sound.banks;
      listed = listed-remove a b place w slot r;
      lengths = ap length r.hazards
          ∙ length-count_less (is_line (at b.slots) w.request.place) (drop (position_or_len (λ t. eqb t slot) xs) (bank_slots b.banks.lists n)) a.hazards ∙ sound.lengths;
      hazards = hazards-remove a b place w slot r;
      counted = λ kind. omega (arith, counts kind, sound.counted kind, ap (one_of kind) is, pending_count-remove kind ws place w r.here.request, ap (pending_count kind) r.held);
      fits = rw r.limits (λ kind. omega (arith, counts kind, sound.fits kind));
      limited = rw r.limits sound.limited;
      in_rank = rw r.held (in_rank-remove ws place sound.in_rank);
    }

numbers : (a : Inside) (rank group bank : ℕ) → IsSound a → group < MOST_GROUPS → bank < GROUP_BANKS → Numbers rank group bank (number rank group bank) (in_slots a.slots)
numbers a rank group bank sound inside below = λ i w there.
    let within = slice_get_within (in_slots a.slots) i w there in
    let in_rank : IsInRank w.request.place = rw (get_or_from_slice_get (in_slots a.slots) i w w there) at (sound.in_rank i w within) in
    number_is w.request.place.rank w.request.place.group w.request.place.bank rank group bank in_rank.0 inside in_rank.1 below

-- a bank's k-th slot tells the place of its k-th request
pub record Found (a : Inside) (rank group bank k s : ℕ) : Type 0 where
  pub slot : s < CAPACITY
  pub place : Some (get_or a.slots.places s 0) ≡ in_bank rank group bank k (in_slots a.slots)

pub found : (a : Inside) (rank group bank k slot : ℕ) → IsSound a → group < MOST_GROUPS → bank < GROUP_BANKS → number rank group bank < BANKS →
    slice_get (bank_slots a.banks.lists (number rank group bank)) k ≡ Some slot → Found a rank group bank k slot
found a rank group bank k slot sound mid low below there =
    let nth = number rank group bank in
    let f = at a.slots in
    let at_place = some_at f rank group bank nth 0 k slot (taken a.slots) (in_slots a.slots) sound.ordered.full (numbers a rank group bank sound mid low)
    (ap (λ xs. slice_get xs k) (sym (sound.listed nth below)) ∙ there) in
    let st = stands a.slots at_place.0 slot sound.ordered at_place.1 in
    let e : get_or a.slots.places slot 0 ≡ 0 + at_place.0 = omega (arith, st.place) in record {
      slot = st.slot;
      place = ap Some e ∙ sym at_place.2;
    }

pub not_found : (a : Inside) (rank group bank k : ℕ) → IsSound a → group < MOST_GROUPS → bank < GROUP_BANKS → number rank group bank < BANKS →
    slice_get (bank_slots a.banks.lists (number rank group bank)) k ≡ None → in_bank rank group bank k (in_slots a.slots) ≡ None
not_found a rank group bank k sound mid low below none =
    let nth = number rank group bank in
    none_at (at a.slots) rank group bank nth 0 k (taken a.slots) (in_slots a.slots) sound.ordered.full (numbers a rank group bank sound mid low)
    (ap (λ xs. slice_get xs k) (sym (sound.listed nth below)) ∙ none)
