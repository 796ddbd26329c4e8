-- Rows to which elements are added place by place, and elements that are taken off in front.
use Rattle.std.proofs.Common.{◌≡◌, ℕ, zero, suc, ◌+◌, ◌-◌, ◌<◌, ◌≤◌, Bool, true, false, ltb, List, [], ◌∷◌, ◌++◌, All, length, map, replicate, drop, set, get_or, Option, Some, slice_get, vec_capacity, vec_len, append_assoc, refl, sym, ap, ◌∙◌, subst, arith}
use Rattle.std.specs.List.{remove}
use Rattle.std.specs.Global.{Vec}
use Rattle.std.specs.Option.{option_map}
use Rattle.std.proofs.lemmas.Bool.{ltb-true, ltb-false}
use Rattle.std.proofs.lemmas.List.{append-nil, drop-set-lt, length-append, map-set, set-get_or}
use Rattle.std.proofs.lemmas.List.Elements.{All-cons}
use Rattle.std.proofs.lemmas.Option.{slice_get-map, slice_get_within, get_or_from_slice_get}
use Rattle.ddr_workers.specs.Gathered.{Gathering, with_all, with_one}
use Rattle.ddr_workers.specs.Joined.{BelowEach, OfEach}
use Rattle.ddr_workers.specs.Lanes.{each_with, lists}
use Rattle.ddr_workers.proofs.LaneLemmas.{length-each_with}
use Rattle.ddr_workers.proofs.SideLemmas.{slice_get-here}

-- what is left behind a place

drop_next : {X : Type 0} (n : ℕ) (xs : List X) → drop (suc n) xs ≡ drop 1 (drop n xs)
drop_next zero xs = refl
drop_next (suc n) [] = refl
drop_next (suc n) (x ∷ xs) = drop_next n xs

pub get_dropped : {X : Type 0} (n : ℕ) (xs : List X) → slice_get (drop n xs) 0 ≡ slice_get xs n
get_dropped zero xs = refl
get_dropped (suc n) [] = refl
get_dropped (suc n) (x ∷ xs) = get_dropped n xs

-- the first of what is left is taken off
pub dropped_next : {X : Type 0} (n : ℕ) (xs left : List X) → left ≡ drop n xs → drop 1 left ≡ drop (n + 1) xs
dropped_next n xs left is = let next : n + 1 ≡ suc n = omega arith in ap (drop 1) is ∙ sym (drop_next n xs) ∙ ap (λ m. drop m xs) (sym next)

-- rows behind the place that was changed are as they were
pub still_left : {X : Type 0} (rows initial : List X) (n : ℕ) (x : X) → drop n rows ≡ drop n initial → drop (n + 1) (set rows n x) ≡ drop (n + 1) initial
still_left rows initial n x same = drop-set-lt (n + 1) rows n x (omega arith) ∙ sym (dropped_next n rows (drop n rows) refl) ∙ dropped_next n initial (drop n rows) same

pub still_there : {X : Type 0} (rows initial : List X) (n : ℕ) → drop n rows ≡ drop n initial → slice_get rows n ≡ slice_get initial n
still_there rows initial n same = sym (get_dropped n rows) ∙ ap (λ xs. slice_get xs 0) same ∙ get_dropped n initial

-- rows keep their room
pub same_room : {X : Type 0} (rows : List (Vec X)) (n : ℕ) (row longer : Vec X) → slice_get rows n ≡ Some row → vec_capacity longer ≡ vec_capacity row → map vec_capacity (set rows n longer) ≡ map vec_capacity rows
same_room rows n row longer there same =
    map-set vec_capacity rows n longer ∙ ap (set (map vec_capacity rows) n) (same ∙ sym (get_or_from_slice_get (map vec_capacity rows) n (vec_capacity row) 0 (slice_get-map vec_capacity rows n ∙ ap (option_map vec_capacity) there)))
    ∙ set-get_or (map vec_capacity rows) n 0

-- room

none_added : {X : Type 0} (rows : List (List X)) → rows ≡ each_with rows []
none_added [] = refl
none_added (row ∷ rows) = refl

module _ {X : Type 0} where
  -- a row has room for so many more
  abbrev pub HasSpare : ℕ → Vec X → Type 0
  HasSpare spare row = vec_len row + spare ≤ vec_capacity row

  all_behind : (P : Vec X → Type 0) (row : Vec X) (rows : List (Vec X)) → All P (row ∷ rows) → All P rows
  all_behind P row rows all k d below = all (suc k) d (omega (arith, below))

  first_has : (spare : ℕ) (row : Vec X) (rows : List (Vec X)) → All (HasSpare spare) (row ∷ rows) → HasSpare spare row
  first_has spare row rows all = all 0 row (omega arith)

  one_less : (old new : Vec X) (spare spare' n : ℕ) → HasSpare spare old → vec_len new ≡ vec_len old + n → n + spare' ≤ spare → vec_capacity new ≡ vec_capacity old → HasSpare spare' new
  one_less old new spare spare' n has longer less same = omega (arith, has, longer, less, same)

  pub room_after : (old new : List (Vec X)) (xs : List X) (spare spare' : ℕ) → 1 + spare' ≤ spare → All (HasSpare spare) old → lists new ≡ each_with (lists old) xs → map vec_capacity new ≡ map vec_capacity old → All (HasSpare spare') new
  room_after [] [] xs spare spare' less all same room = λ k d below. absurd (omega (arith, below))
  room_after [] (row' ∷ new) xs spare spare' less all same room = cc
  room_after (row ∷ old) [] [] spare spare' less all same room = cc
  room_after (row ∷ old) [] (x ∷ xs) spare spare' less all same room = cc
  room_after (row ∷ old) (row' ∷ new) [] spare spare' less all same room =
      All-cons (HasSpare spare') row' new
      (one_less row row' spare spare' 0 (first_has spare row old all) (let e = ap (λ l. length (get_or l 0 [])) same in omega (arith, e, row.ok.0, row'.ok.0)) (omega (arith, less)) (ap (λ l. get_or l 0 0) room))
      (room_after old new [] spare spare' less (all_behind (HasSpare spare) row old all) (ap (drop 1) same ∙ none_added (lists old)) (ap (drop 1) room))
  room_after (row ∷ old) (row' ∷ new) (x ∷ xs) spare spare' less all same room =
      All-cons (HasSpare spare') row' new
      (one_less row row' spare spare' 1 (first_has spare row old all) (let e = ap (λ l. length (get_or l 0 [])) same in omega (arith, e, length-append row.items (x ∷ []), row.ok.0, row'.ok.0)) less (ap (λ l. get_or l 0 0) room))
      (room_after old new xs spare spare' less (all_behind (HasSpare spare) row old all) (ap (drop 1) same) (ap (drop 1) room))

  pub room_first : (rows : List (Vec X)) (queues holders spare : ℕ) → spare ≤ holders → lists rows ≡ replicate queues [] → map vec_capacity rows ≡ replicate queues holders → All (HasSpare spare) rows
  room_first [] queues holders spare less empty room = λ k d below. absurd (omega (arith, below))
  room_first (row ∷ rows) zero holders spare less empty room = cc
  room_first (row ∷ rows) (suc queues) holders spare less empty room =
      All-cons (HasSpare spare) row rows
      (let e = ap (λ l. length (get_or l 0 [])) empty in let f : vec_capacity row ≡ holders = ap (λ l. get_or l 0 0) room in omega (arith, e, f, row.ok.0, less))
      (room_first rows queues holders spare less (ap (drop 1) empty) (ap (drop 1) room))

  -- rows of one length, in which there is room for more
  pub room_in : (rows : List (Vec X)) (count most n : ℕ) → map vec_capacity rows ≡ replicate count most → ((k : ℕ) (row : List X) → slice_get (lists rows) k ≡ Some row → length row ≡ n) → n < most → All (λ row. vec_len row < vec_capacity row) rows
  room_in [] count most n room each below = λ k d there. absurd (omega (arith, there))
  room_in (row ∷ rows) zero most n room each below = cc
  room_in (row ∷ rows) (suc count) most n room each below =
      All-cons (λ row. vec_len row < vec_capacity row) row rows
      (let e : vec_capacity row ≡ most = ap (λ l. get_or l 0 0) room in omega (arith, e, row.ok.0, each 0 row.items refl, below))
      (room_in rows count most n (ap (drop 1) room) (λ k r there. each (suc k) r there) below)

-- queues that are joined one after another

first_off : {X : Type 0} (left whole : List X) (n : ℕ) (x : X) → left ≡ drop n whole → 0 < length left → x ≡ get_or left 0 x → slice_get whole n ≡ Some x
first_off [] whole n x is some first = absurd (omega (arith, some))
first_off (y ∷ ys) whole n x is some first = sym (get_dropped n whole) ∙ ap (λ l. slice_get l 0) (sym is) ∙ ap Some (sym first)

row_off : {X : Type 0} (left : List (Vec X)) (whole : List (List X)) (n : ℕ) (v : Vec X) → lists left ≡ drop n whole → 0 < length left → v ≡ get_or left 0 v → slice_get whole n ≡ Some v.items
row_off [] whole n v is some first = absurd (omega (arith, some))
row_off (w ∷ ws) whole n v is some first = sym (get_dropped n whole) ∙ ap (λ l. slice_get l 0) (sym is) ∙ ap (λ u. Some u.items) (sym first)

rest_off : {X : Type 0} (left whole : List X) (n : ℕ) → left ≡ drop n whole → 0 < length left → remove left 0 ≡ drop (n + 1) whole
rest_off [] whole n is some = absurd (omega (arith, some))
rest_off (y ∷ ys) whole n is some = dropped_next n whole (y ∷ ys) is

rows_off : {X : Type 0} (left : List (Vec X)) (whole : List (List X)) (n : ℕ) → lists left ≡ drop n whole → 0 < length left → lists (remove left 0) ≡ drop (n + 1) whole
rows_off [] whole n is some = absurd (omega (arith, some))
rows_off (w ∷ ws) whole n is some = dropped_next n whole (lists (w ∷ ws)) is

same_some : {X : Type 0} (o : Option X) (x y : X) → o ≡ Some x → o ≡ Some y → x ≡ y
same_some o x y is is' = cc

module _ {X Y : Type 0} (P : List X → Y → Type 0) (rows : List (List X)) (ys : List Y) where
  one_more : (n : ℕ) (row : List X) (y : Y) → BelowEach P n rows ys → slice_get rows n ≡ Some row → slice_get ys n ≡ Some y → P row y
      → (q : ℕ) (row' : List X) (y' : Y) (b : Bool) → ltb q n ≡ b → q < n + 1 → slice_get rows q ≡ Some row' → slice_get ys q ≡ Some y' → P row' y'
  one_more n row y before there there' is q row' y' true e below at at' = before q row' y' (ltb-true q n e) at at'
  one_more n row y before there there' is q row' y' false e below at at' =
      let same : q ≡ n = omega (arith, ltb-false q n e, below) in
      subst (λ (z : List X × Y). P z.0 z.1)
      (λ i. (same_some (slice_get rows n) row row' there (ap (slice_get rows) (sym same) ∙ at) i, same_some (slice_get ys n) y y' there' (ap (slice_get ys) (sym same) ∙ at') i)) is

  -- the queue at a place was taken off, and once it is joined, one more is
  pub record IsTakenOff (n : ℕ) (left_rows : List (Vec X)) (left_ys : List Y) (row : Vec X) (y : Y) : Type 0 where
    pub row_there : slice_get rows n ≡ Some row.items
    pub y_there : slice_get ys n ≡ Some y
    pub rows_left : lists (remove left_rows 0) ≡ drop (n + 1) rows
    pub ys_left : remove left_ys 0 ≡ drop (n + 1) ys
    pub joined : BelowEach P n rows ys → P row.items y → BelowEach P (n + 1) rows ys

  pub taken_off : (n : ℕ) (left_rows : List (Vec X)) (left_ys : List Y) (row : Vec X) (y : Y) → lists left_rows ≡ drop n rows → left_ys ≡ drop n ys → length left_rows ≡ length left_ys → 0 < length left_ys
      → row ≡ get_or left_rows 0 row → y ≡ get_or left_ys 0 y → IsTakenOff n left_rows left_ys row y
  taken_off n left_rows left_ys row y rows_are ys_are beside some row_is y_is =
      let some_row : 0 < length left_rows = omega (arith, beside, some) in
      let row_there = row_off left_rows rows n row rows_are some_row row_is in
      let y_there = first_off left_ys ys n y ys_are some y_is in
      record {
        row_there = row_there;
        y_there = y_there;
        rows_left = rows_off left_rows rows n rows_are some_row;
        ys_left = rest_off left_ys ys n ys_are some;
        joined = λ before is q row' y'. one_more n row.items y before row_there y_there is q row' y' (ltb q n) refl;
      }

  pub all_joined : (n : ℕ) → length ys ≤ n → BelowEach P n rows ys → OfEach P rows ys
  all_joined n all before q row y at at' = before q row y (omega (arith, slice_get_within ys q y at', all)) at at'

-- the next of those that are left comes: it and the rest stand behind those that came before, and the rest behind all of them
pub record ComesNext {X : Type 0} (came : List X) (x : X) (rest whole : List X) : Type 0 where
  pub before : came ++ x ∷ rest ≡ whole
  pub behind : (came ++ x ∷ []) ++ rest ≡ whole

pub comes_next : {X : Type 0} (came : List X) {left rest whole : List X} {x : X} → left ≡ x ∷ rest → came ++ left ≡ whole → ComesNext came x rest whole
comes_next came {left} {rest} {whole} {x} first is =
    let before : came ++ x ∷ rest ≡ whole = ap (λ xs. came ++ xs) (sym first) ∙ is in
    record { before = before; behind = append_assoc came (x ∷ []) rest ∙ before }

-- what several holders have, gathered

module _ {P T E : Type 0} (puts : E → List P) (take : E → T) where
  pub gathered_last : (g : Gathering P T) (es : List E) (e : E) → with_all puts take g (es ++ e ∷ []) ≡ with_one (with_all puts take g es) (puts e) (take e)
  gathered_last g [] e = refl
  gathered_last g (d ∷ es) e = gathered_last (with_one g (puts d) (take d)) es e

  pub gathered_spare : (g : Gathering P T) (es : List E) → (with_all puts take g es).spare ≡ g.spare - length es
  gathered_spare g [] = omega arith
  gathered_spare g (e ∷ es) = omega (arith, gathered_spare (with_one g (puts e) (take e)) es)

  pub gathered_queues : (g : Gathering P T) (es : List E) → length (with_all puts take g es).puts ≡ length g.puts
  gathered_queues g [] = refl
  gathered_queues g (e ∷ es) = gathered_queues (with_one g (puts e) (take e)) es ∙ length-each_with g.puts (puts e)

  pub gathered_takes : (g : Gathering P T) (es : List E) → (with_all puts take g es).takes ≡ g.takes ++ map take es
  gathered_takes g [] = sym (append-nil g.takes)
  gathered_takes g (e ∷ es) = gathered_takes (with_one g (puts e) (take e)) es ∙ append_assoc g.takes (take e ∷ []) (map take es)

  -- a holder that comes next, while others have come
  module _ (g now : Gathering P T) {es came rest : List E} {e : E} (next : ComesNext came e rest es) (is : now ≡ with_all puts take g came) where
    pub room_for_next : g.spare ≡ length es → 0 < now.spare
    room_for_next room =
        let l = ap length next.before in
        let s = ap (λ (h : Gathering P T). h.spare) is in
        omega (arith, l, s, room, gathered_spare g came, length-append came (e ∷ rest))

    pub side_for_each : (row : List P) → row ≡ puts e → ((k : ℕ) (d : E) → slice_get es k ≡ Some d → length (puts d) ≡ length g.puts) → length row ≡ length now.puts
    side_for_each row row_is each =
        ap length row_is ∙ each (length came) e (slice_get-here came e rest es next.before) ∙ sym (ap (λ (h : Gathering P T). length h.puts) is ∙ gathered_queues g came)

    pub next_added : (after : Gathering P T) (row : List P) (t : T) → row ≡ puts e → t ≡ take e → after ≡ with_one now row t → after ≡ with_all puts take g (came ++ e ∷ [])
    next_added after row t row_is t_is added = added ∙ (λ i. with_one (is i) (row_is i) (t_is i)) ∙ sym (gathered_last g came e)

-- each of them has come
pub all_came : {X : Type 0} (came rest whole : List X) (n : ℕ) → came ++ rest ≡ whole → n ≡ length rest → n ≡ 0 → whole ≡ came
all_came came [] whole n is left none = sym is ∙ append-nil came
all_came came (x ∷ xs) whole n is left none = absurd (omega (arith, left, none))
