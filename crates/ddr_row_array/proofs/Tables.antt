-- The tables of places: when a row is stored, a table is made, and a place is set.
use Rattle.std.proofs.Common.{◌≡◌, ◌≢◌, ℕ, ◌+◌, ◌<◌, ◌≤◌, ◌^◌, true, ◌&&◌, ltb, leb, List, [], ◌∷◌, ◌++◌, length, map, get_or, set, take, drop, replicate, refl, sym, ap, subst, ◌∙◌, inl, inr, arith, vec_len, vec_capacity}
use Rattle.std.specs.List.{sum_by}
use Rattle.std.specs.Vec.{with_item}
use Rattle.std.proofs.lemmas.Bool.{cases_eq, cases_lt, ne_eqb}
use Rattle.std.proofs.lemmas.Bool.Decides.{nat_tests}
use Rattle.std.proofs.lemmas.List.{get_or-take, get_or-drop, get_or-set_same, get_or-set_other, get_or_append_left, get_or_push, get_or_default, get_or-map, length-append, length-map, length-replicate, length-set, length-take, length-drop, length_push, same_lists, take-append-le, drop-append-le, drop_at, drop-set-add, take_all}
use Rattle.std.proofs.Math.Seq.{take-set-lt}
use Rattle.std.proofs.lemmas.List.Elements.{All-push, All-set}
use Rattle.std.proofs.lemmas.List.Sums.{sum_by_push, sum_by-set, get_or-le-sum_by}
use Rattle.ddr_row_array.specs.declared.slot.StoredRow.{StoredRow}
use Rattle.ddr_row_array.specs.declared.slot.Slots.TheInside.{Inside}
use Rattle.ddr_row_array.specs.Arena.{Reserved}
use Rattle.ddr_row_array.specs.LentItem.{with_item as written}
use Rattle.ddr_row_array.specs.Placed.{PlacedRow, placed}
use Rattle.ddr_row_array.specs.Tables.{IsTabled, table_at, placed_of, placed_rows, untabled_in}

-- ---- a table of words
get_or-table : (width : ℕ) (words : List ℕ) (start m d : ℕ) → m < width → get_or (table_at width words start) m d ≡ get_or words (start + m) d
get_or-table width words start m d within = get_or-take width (drop start words) m d within ∙ get_or-drop start words m d

length-table : (width : ℕ) (words : List ℕ) (start : ℕ) → start + width ≤ length words → length (table_at width words start) ≡ width
length-table width words start within = omega (arith, length-take width (drop start words), length-drop start words)

-- a word that is not in it is set
table_at-set_other : (width : ℕ) (words : List ℕ) (start k p : ℕ) → start + width ≤ length words → ((m : ℕ) → m < width → start + m ≢ k) → table_at width (set words k p) start ≡ table_at width words start
table_at-set_other width words start k p within apart =
    let long = length-table width words start within in
    let new_long = length-table width (set words k p) start (rw (length-set words k p) within) in
    same_lists (table_at width (set words k p) start) (table_at width words start) (new_long ∙ sym long)
    (λ m d h.
    let below : m < width = omega arith in
    get_or-table width (set words k p) start m d below
    ∙ get_or-set_other words k (start + m) p d (apart m below)
    ∙ sym (get_or-table width words start m d below))

table_at-set_same : (width : ℕ) (words : List ℕ) (start l p : ℕ) → l < width → table_at width (set words (start + l) p) start ≡ set (table_at width words start) l p
table_at-set_same width words start l p within =
    ap (take width) (drop-set-add start words l p) ∙ take-set-lt width (drop start words) l p within

table_at-append : (width : ℕ) (words more : List ℕ) (start : ℕ) → start + width ≤ length words → table_at width (words ++ more) start ≡ table_at width words start
table_at-append width words more start within =
    ap (take width) (drop-append-le start words more (omega arith))
    ∙ take-append-le width (drop start words) more (omega (arith, length-drop start words))

table_at_end : (width : ℕ) (words more : List ℕ) → length more ≡ width → table_at width (words ++ more) (length words) ≡ more
table_at_end width words more long = ap (take width) (drop_at words more (length words) refl) ∙ take_all width more (omega arith)

-- ---- what is kept
pub IsTabled-same : (old new : Inside) → IsTabled old → new.width ≡ old.width → new.rows.items ≡ old.rows.items → new.words.items ≡ old.words.items → new.untabled ≡ old.untabled → old.words.capacity ≤ new.words.capacity → new.words.capacity ≤ 2 ^ 57 → IsTabled new
IsTabled-same old new sound width rows words untabled more bounded = record {
  narrow = rw width sound.narrow;
  zeros = rw (width, words) sound.zeros;
  within = rw (width, words, rows) sound.within;
  behind = rw (width, rows) sound.behind;
  apart = rw (width, rows) sound.apart;
  counted = rw (width, rows, untabled) sound.counted;
  room = let room = sound.room in rw (words, untabled) (omega arith);
  bounded = bounded;
}

pub zeros_first : (a : Inside) → IsTabled a → a.width ≤ length a.words.items
zeros_first a sound =
    let long = ap length sound.zeros ∙ length-replicate {A = ℕ} a.width 0 in
    omega (arith, length-take a.width (drop 0 a.words.items), length-drop 0 a.words.items)

pub IsTabled-new : (a : Inside) → a.width < 2 ^ 32 → a.rows.items ≡ [] → a.words.items ≡ replicate a.width 0 → a.untabled ≡ 0 → a.width ≤ a.words.capacity → a.words.capacity ≤ 2 ^ 57 → IsTabled a
IsTabled-new a narrow rows words untabled room bounded = record {
  narrow = narrow;
  zeros = rw words (take_all a.width (replicate a.width 0) (omega (arith, length-replicate {A = ℕ} a.width 0)));
  within = rw rows (λ i d h. absurd (omega arith));
  behind = rw rows (λ i d h. absurd (omega arith));
  apart = rw rows (λ i j l m d h. absurd (omega arith));
  counted = rw rows untabled;
  room = rw (words, untabled) (omega (arith, length-replicate {A = ℕ} a.width 0));
  bounded = bounded;
}

-- ---- a row is stored
module _ (old new : Inside) (t : StoredRow) (sound : IsTabled old) (width : new.width ≡ old.width) (words : new.words ≡ old.words) (untabled : new.untabled ≡ old.untabled + old.width) (rows : new.rows.items ≡ old.rows.items ++ t ∷ []) (unset : t.start ≡ 0) (room : length old.words.items + old.untabled + old.width ≤ old.words.capacity) where
  abbrev slots : List StoredRow
  slots = old.rows.items

  abbrev pushed : List StoredRow
  pushed = slots ++ t ∷ []

  start-old : (i : ℕ) (d : StoredRow) → i < length slots → (get_or pushed i d).start ≡ (get_or slots i d).start
  start-old i d within = ap (λ (s : StoredRow). s.start) (get_or_append_left slots (t ∷ []) d i within)

  start-new : (i : ℕ) (d : StoredRow) → length slots ≤ i → i < length pushed → (get_or pushed i d).start ≡ 0
  start-new i d past within =
      ap (λ (s : StoredRow). s.start) (get_or_push slots t d i (omega (arith, length_push slots t))) ∙ unset

  apart-pushed : (i j l m : ℕ) (d : StoredRow) → i < length pushed → j < length pushed → l < old.width → m < old.width → 0 < (get_or pushed i d).start → (get_or pushed i d).start + l ≡ (get_or pushed j d).start + m → i ≡ j
  apart-pushed i j l m d i_in j_in l_in m_in set_i same =
      elim (cases_lt i (length slots)) [
        | inl i_old ↦
            let start_i = start-old i d i_old in
            elim (cases_lt j (length slots)) [
              | inl j_old ↦ let start_j = start-old j d j_old in sound.apart i j l m d i_old j_old l_in m_in (omega arith) (omega arith)
              | inr j_new ↦ absurd
                  (let start_j = start-new j d j_new j_in in
                  let behind : 0 < (get_or slots i d).start → old.width ≤ (get_or slots i d).start = sound.behind i d i_old in
                  let far = behind (omega arith) in
                  omega arith)
            ]
        | inr i_new ↦ absurd (let start_i = start-new i d i_new i_in in omega arith)
      ]

  pub IsTabled-pushed : IsTabled new
  IsTabled-pushed = record {
    narrow = rw width sound.narrow;
    zeros = rw (width, words) sound.zeros;
    within =
        rw (width, words, rows)
        (All-push (λ (s : StoredRow). s.start + old.width ≤ length old.words.items) slots t sound.within (let first = zeros_first old sound in omega arith));
    behind = rw (width, rows) (All-push (λ (s : StoredRow). 0 < s.start → old.width ≤ s.start) slots t sound.behind (λ h. absurd (omega arith)));
    apart = rw (width, rows) apart-pushed;
    counted =
        let all : untabled_in old.width t ≡ old.width = rw unset refl in
        rw (width, rows)
        (untabled ∙ ap (λ n. n + old.width) sound.counted ∙ ap (λ n. sum_by (untabled_in old.width) slots + n) (sym all)
        ∙ sym (sum_by_push (untabled_in old.width) slots t));
    room = rw (words, untabled) (omega arith);
    bounded = rw words sound.bounded;
  }

-- ---- a place is set, where the row has its table
module _ (a : Inside) (sound : IsTabled a) (k l p : ℕ) (t : StoredRow) (in_slots : k < length a.rows.items) (in_row : l < a.width) (is : t ≡ get_or a.rows.items k t) (tabled : 0 < t.start) where
  abbrev rows : List StoredRow
  rows = a.rows.items

  abbrev old_words : List ℕ
  old_words = a.words.items

  abbrev new_words : List ℕ
  new_words = set old_words (t.start + l) p

  abbrev pub placed_inside : Inside
  placed_inside = record a { words = written a.words (t.start + l) p }

  is_at : (d : StoredRow) → get_or rows k d ≡ t
  is_at d = get_or_default rows k d t in_slots ∙ sym is

  slot_within : t.start + a.width ≤ length old_words
  slot_within = subst (λ (s : StoredRow). s.start + a.width ≤ length old_words) (sym is) (sound.within k t in_slots)

  slot_behind : a.width ≤ t.start
  slot_behind = subst (λ (s : StoredRow). 0 < s.start → a.width ≤ s.start) (sym is) (sound.behind k t in_slots) tabled

  pub IsTabled-placed : IsTabled placed_inside
  IsTabled-placed = record {
    narrow = sound.narrow;
    zeros =
        let first = zeros_first a sound in
        let behind = slot_behind in
        table_at-set_other a.width old_words 0 (t.start + l) p (omega arith) (λ m below same. absurd (omega arith)) ∙ sound.zeros;
    within = rw (length-set old_words (t.start + l) p) sound.within;
    behind = sound.behind;
    apart = sound.apart;
    counted = sound.counted;
    room = rw (length-set old_words (t.start + l) p) sound.room;
    bounded = sound.bounded;
  }

  other_table : (i : ℕ) → i < length rows → i ≢ k → table_at a.width new_words (get_or rows i t).start ≡ table_at a.width old_words (get_or rows i t).start
  other_table i within other =
      table_at-set_other a.width old_words (get_or rows i t).start (t.start + l) p (sound.within i t within)
      (λ m below same.
      let start : t.start ≡ (get_or rows k t).start = ap (λ (s : StoredRow). s.start) is in
      other (sym (sound.apart k i l m t in_slots within in_row below (omega arith) (omega arith))))

  placed_item : (i : ℕ) (d : PlacedRow) → i < length rows → placed_of a.width new_words (get_or rows i t) ≡ get_or (set (map (placed_of a.width old_words) rows) k (placed (placed_of a.width old_words t) l p)) i d
  placed_item i d within =
      let olds = map (placed_of a.width old_words) rows in
      let new = placed (placed_of a.width old_words t) l p in
      elim (cases_eq i k) [
        | inl same ↦
            rw same
            (ap (placed_of a.width new_words) (sym is)
            ∙ ap (λ places. record (placed_of a.width old_words t) { places = places }) (table_at-set_same a.width old_words t.start l p in_row)
            ∙ sym (get_or-set_same olds k new d (omega (arith, length-map rows (placed_of a.width old_words)))))
        | inr other ↦
            ap (λ places. record (placed_of a.width old_words (get_or rows i t)) { places = places }) (other_table i within other)
            ∙ sym (get_or-map (placed_of a.width old_words) rows i t d within)
            ∙ sym (get_or-set_other olds k i new d other)
      ]

  pub items-placed : (d : PlacedRow) → map (placed_of a.width new_words) rows ≡ set (map (placed_of a.width old_words) rows) k (placed (get_or (map (placed_of a.width old_words) rows) k d) l p)
  items-placed d =
      let olds = map (placed_of a.width old_words) rows in
      let new = placed (placed_of a.width old_words t) l p in
      let here : get_or olds k d ≡ placed_of a.width old_words t = get_or-map (placed_of a.width old_words) rows k t d in_slots ∙ ap (placed_of a.width old_words) (sym is) in
      same_lists (map (placed_of a.width new_words) rows) (set olds k new)
      (omega (arith, length-map rows (placed_of a.width new_words), length-map rows (placed_of a.width old_words), length-set olds k new))
      (λ i e h.
      let within : i < length rows = omega (arith, length-map rows (placed_of a.width new_words)) in
      get_or-map (placed_of a.width new_words) rows i t e within ∙ placed_item i e within)
      ∙ ap (λ s. set olds k (placed s l p)) (sym here)

-- ---- a table is made
module _ (a : Inside) (sound : IsTabled a) (k : ℕ) (t : StoredRow) (in_slots : k < length a.rows.items) (positive : 0 < a.width) (is : t ≡ get_or a.rows.items k t) (unset : t.start ≡ 0) (u n : ℕ) (words : Reserved ℕ) (is_u : u + a.width ≡ a.untabled) (is_n : n ≡ length a.words.items) (more : words.items ≡ a.words.items ++ replicate a.width 0) (same_room : words.capacity ≡ a.words.capacity) where
  abbrev before : List StoredRow
  before = a.rows.items

  abbrev zeros : List ℕ
  zeros = replicate a.width 0

  abbrev new_slot : StoredRow
  new_slot = record t { start = n }

  abbrev after : List StoredRow
  after = set before k new_slot

  abbrev pub made : Inside
  made = record a { rows = with_item a.rows k new_slot; words = words; untabled = u }

  words_long : length words.items ≡ n + a.width
  words_long = ap length more ∙ omega (arith, length-append a.words.items zeros, length-replicate {A = ℕ} a.width 0)

  start-made : (d : StoredRow) → (get_or after k d).start ≡ n
  start-made d = ap (λ (s : StoredRow). s.start) (get_or-set_same before k new_slot d in_slots)

  start-kept : (i : ℕ) (d : StoredRow) → i ≢ k → (get_or after i d).start ≡ (get_or before i d).start
  start-kept i d other = ap (λ (s : StoredRow). s.start) (get_or-set_other before k i new_slot d other)

  below : (i : ℕ) (d : StoredRow) → i < length before → (get_or before i d).start + a.width ≤ n
  below i d within = rw is_n (sound.within i d within)

  apart-made : (i j l m : ℕ) (d : StoredRow) → i < length after → j < length after → l < a.width → m < a.width → 0 < (get_or after i d).start → (get_or after i d).start + l ≡ (get_or after j d).start + m → i ≡ j
  apart-made i j l m d i_in j_in l_in m_in set_i same =
      let i_old : i < length before = omega (arith, length-set before k new_slot) in
      let j_old : j < length before = omega (arith, length-set before k new_slot) in
      elim (cases_eq i k) [
        | inl i_is ↦
            elim (cases_eq j k) [
              | inl j_is ↦ i_is ∙ sym j_is
              | inr j_not ↦ absurd
                  (let start_i : (get_or after i d).start ≡ n = subst (λ x. (get_or after x d).start ≡ n) (sym i_is) (start-made d) in
                  let start_j = start-kept j d j_not in
                  let far = below j d j_old in
                  omega arith)
            ]
        | inr i_not ↦
            let start_i = start-kept i d i_not in
            elim (cases_eq j k) [
              | inl j_is ↦ absurd
                  (let start_j : (get_or after j d).start ≡ n = subst (λ x. (get_or after x d).start ≡ n) (sym j_is) (start-made d) in
                  let far = below i d i_old in
                  omega arith)
              | inr j_not ↦ let start_j = start-kept j d j_not in sound.apart i j l m d i_old j_old l_in m_in (omega arith) (omega arith)
            ]
      ]

  pub IsTabled-made : IsTabled made
  IsTabled-made = record {
    narrow = sound.narrow;
    zeros = let first = zeros_first a sound in rw more (table_at-append a.width a.words.items zeros 0 (omega arith) ∙ sound.zeros);
    within =
        All-set (λ (s : StoredRow). s.start + a.width ≤ length words.items) before k new_slot (omega (arith, words_long))
        (λ i d h. let far = below i d h in let long = words_long in omega arith);
    behind =
        All-set (λ (s : StoredRow). 0 < s.start → a.width ≤ s.start) before k new_slot
        (λ h. let first = zeros_first a sound in omega arith) sound.behind;
    apart = apart-made;
    counted =
        let sum = sum_by-set (untabled_in a.width) before k new_slot t in_slots in
        let first = zeros_first a sound in
        let was : untabled_in a.width (get_or before k t) ≡ a.width = subst (λ (s : StoredRow). untabled_in a.width s ≡ a.width) is (rw unset refl) in
        let now : untabled_in a.width new_slot ≡ 0 = rw (ne_eqb n 0 (λ e. absurd (omega arith))) refl in
        let counted = sound.counted in
        omega arith;
    room = let room = sound.room in let long = words_long in rw same_room (omega arith);
    bounded = rw same_room sound.bounded;
  }

  kept_item : (i : ℕ) → i < length before → placed_of a.width words.items (get_or after i t) ≡ placed_of a.width a.words.items (get_or before i t)
  kept_item i within =
      elim (cases_eq i k) [
        | inl same ↦
            let new : get_or after k t ≡ new_slot = get_or-set_same before k new_slot t in_slots in
            let table : table_at a.width words.items n ≡ table_at a.width a.words.items t.start =
            ap (λ ws. table_at a.width ws n) more ∙ ap (table_at a.width (a.words.items ++ zeros)) is_n
            ∙ table_at_end a.width a.words.items zeros (length-replicate {A = ℕ} a.width 0)
            ∙ sym sound.zeros ∙ ap (table_at a.width a.words.items) (sym unset) in
            rw same
            (ap (placed_of a.width words.items) new
            ∙ ap (λ places. record (placed_of a.width a.words.items t) { places = places }) table
            ∙ ap (placed_of a.width a.words.items) is)
        | inr other ↦
            let old : get_or after i t ≡ get_or before i t = get_or-set_other before k i new_slot t other in
            ap (placed_of a.width words.items) old
            ∙ ap (λ ws. placed_of a.width ws (get_or before i t)) more
            ∙ ap (λ places. record (placed_of a.width a.words.items (get_or before i t)) { places = places }) (table_at-append a.width a.words.items zeros (get_or before i t).start (sound.within i t within))
      ]

  -- no place changes
  pub items-made : map (placed_of a.width words.items) after ≡ map (placed_of a.width a.words.items) before
  items-made =
      same_lists (map (placed_of a.width words.items) after) (map (placed_of a.width a.words.items) before)
      (omega (arith, length-map after (placed_of a.width words.items), length-map before (placed_of a.width a.words.items), length-set before k new_slot))
      (λ i d h.
      let within : i < length before = omega (arith, length-map after (placed_of a.width words.items), length-set before k new_slot) in
      get_or-map (placed_of a.width words.items) after i t d (omega (arith, length-set before k new_slot))
      ∙ kept_item i within ∙ sym (get_or-map (placed_of a.width a.words.items) before i t d within))

  module _ (l p : ℕ) (in_row : l < a.width) where
    pub there : k < length made.rows.items
    there = omega (arith, in_slots, length-set before k new_slot)

    pub is_new : new_slot ≡ get_or made.rows.items k new_slot
    is_new = sym (get_or-set_same before k new_slot new_slot in_slots)

    pub above : 0 < n
    above = let first = zeros_first a sound in omega arith

    pub IsTabled-both : IsTabled (placed_inside made IsTabled-made k l p new_slot there in_row is_new above)
    IsTabled-both = IsTabled-placed made IsTabled-made k l p new_slot there in_row is_new above

    -- a place is set in the new table
    pub items-both : (d : PlacedRow) → map (placed_of a.width (set words.items (n + l) p)) after ≡ set (map (placed_of a.width a.words.items) before) k (placed (get_or (map (placed_of a.width a.words.items) before) k d) l p)
    items-both d =
        items-placed made IsTabled-made k l p new_slot there in_row is_new above d
        ∙ ap (λ items. set items k (placed (get_or items k d) l p)) items-made

-- a slot that contracts count
pub slot_there : (a : Inside) (k : ℕ) → k < length (placed_rows a).items → k < length a.rows.items
slot_there a k h = omega (arith, length-map a.rows.items (placed_of a.width a.words.items))

-- there is room for the row's table
both_hold : (m n k c : ℕ) → (ltb m n && leb k c) ≡ true → k ≤ c
both_hold m n k c h = grind (arith, nat_tests)

pub has_both : (a : Inside) → (placed_rows a).has_room ≡ true → length a.words.items + a.untabled + a.width ≤ a.words.capacity
has_both a h = both_hold (vec_len a.rows) (vec_capacity a.rows) (length a.words.items + a.untabled + a.width) a.words.capacity h

-- two reads of a slot
pub same_slot : (slots : List StoredRow) (k : ℕ) → k < length slots → (x y : StoredRow) → x ≡ get_or slots k x → y ≡ get_or slots k y → y.start ≡ x.start
same_slot slots k there x y is_x is_y =
    ap (λ (s : StoredRow). s.start) (is_y ∙ get_or_default slots k y x there ∙ sym is_x)

-- the words of its table were counted
pub untabled_enough : (a : Inside) → IsTabled a → (k : ℕ) (t : StoredRow) → k < length a.rows.items → t ≡ get_or a.rows.items k t → t.start ≡ 0 → a.width ≤ a.untabled
untabled_enough a sound k t there is unset =
    let all = get_or-le-sum_by (untabled_in a.width) a.rows.items k t there in
    let here : untabled_in a.width (get_or a.rows.items k t) ≡ a.width = subst (λ (s : StoredRow). untabled_in a.width s ≡ a.width) is (rw unset refl) in
    let counted = sound.counted in
    omega arith
