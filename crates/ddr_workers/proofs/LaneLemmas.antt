-- Queues that are opened one after another, and whose sides are handed out.
use Rattle.std.proofs.Common.{◌≡◌, ℕ, zero, suc, ◌+◌, ◌<◌, ⊎_elim, List, [], ◌∷◌, ◌++◌, length, take, drop, set, replicate, get_or, Some, slice_get, length-append, append_assoc, refl, sym, ap, ◌∙◌, subst, arith}
use Rattle.std.specs.List.{remove}
use Rattle.std.specs.Global.{Vec}
use Rattle.std.specs.Option.{option_map}
use Rattle.std.proofs.lemmas.List.{length-map, append-nil}
use Rattle.std.proofs.lemmas.Option.{slice_get_within, slice_get-map}
use Rattle.ddr_workers.specs.Lanes.{lists, each_with, AreLanes, AreEach, AreFrom}
use Rattle.ddr_workers.specs.Open.{IsNewQueue}
use Rattle.ddr_workers.specs.Sides.{PutSide, TakeSide, AreOpened, new_put}
use Rattle.ddr_workers.proofs.SideLemmas.{slice_get-last, each_pushed}

-- rows

pub length-each_with : {X : Type 0} (rows : List (List X)) (xs : List X) → length (each_with rows xs) ≡ length rows
length-each_with [] xs = refl
length-each_with (row ∷ rows) [] = refl
length-each_with (row ∷ rows) (x ∷ xs) = ap suc (length-each_with rows xs)

-- a row of those with one element more
pub record IsLonger {X : Type 0} (rows : List (List X)) (xs : List X) (k : ℕ) (longer : List X) : Type 0 where
  pub row : List X
  pub x : X
  pub row_there : slice_get rows k ≡ Some row
  pub x_there : slice_get xs k ≡ Some x
  pub is : longer ≡ row ++ x ∷ []

pub longer_row : {X : Type 0} (rows : List (List X)) (xs : List X) (k : ℕ) (longer : List X) → length xs ≡ length rows → slice_get (each_with rows xs) k ≡ Some longer → IsLonger rows xs k longer
longer_row [] xs k longer same there = cc
longer_row (row ∷ rows) [] k longer same there = absurd (omega (arith, same))
longer_row (row ∷ rows) (x ∷ xs) zero longer same there = record { row = row; x = x; row_there = refl; x_there = refl; is = cc }
longer_row (row ∷ rows) (x ∷ xs) (suc k) longer same there =
    let rest = longer_row rows xs k longer (omega (arith, same)) there in
    record { row = rest.row; x = rest.x; row_there = rest.row_there; x_there = rest.x_there; is = rest.is }

slice_get-replicate : {X : Type 0} (n : ℕ) (x y : X) (k : ℕ) → slice_get (replicate n x) k ≡ Some y → x ≡ y
slice_get-replicate zero x y k there = cc
slice_get-replicate (suc n) x y zero there = cc
slice_get-replicate (suc n) x y (suc k) there = slice_get-replicate n x y k there

pub length-replicate : {X : Type 0} (n : ℕ) (x : X) → length (replicate n x) ≡ n
length-replicate zero x = refl
length-replicate (suc n) x = ap suc (length-replicate n x)

-- handing out: the rows up to a place have their element more
handed_more : {X : Type 0} (rows : List (List X)) (xs : List X) (n : ℕ) (x : X) (row : List X) → n < length rows → slice_get rows n ≡ Some row
    → take (suc n) (set rows n (row ++ x ∷ [])) ++ each_with (drop (suc n) (set rows n (row ++ x ∷ []))) xs ≡ take n rows ++ each_with (drop n rows) (x ∷ xs)
handed_more [] xs n x row within there = cc
handed_more (first ∷ rows) xs zero x row within there = let same : first ≡ row = cc in ap (λ r. (r ++ x ∷ []) ∷ each_with rows xs) (sym same)
handed_more (first ∷ rows) xs (suc n) x row within there = ap (λ rs. first ∷ rs) (handed_more rows xs n x row (omega (arith, within)) there)

-- lanes

module _ {S T : Type 0} (aim : ℕ → S) (most holders : ℕ) where
  pub no_lanes : (rows : List (List (PutSide S T))) → rows ≡ replicate holders [] → AreLanes aim most holders 0 rows []
  no_lanes rows is = record {
    rows_are = ap length is ∙ length-replicate holders [];
    takes_are = refl;
    row = λ k row there. ap length (sym (slice_get-replicate holders [] row k (ap (λ rs. slice_get rs k) (sym is) ∙ there)));
    new = λ q take there. cc;
    put = λ k q row side take row_there there take_there. cc;
  }

  new_side : (queues : ℕ) (puts : List (PutSide S T)) (take : TakeSide S T) → AreOpened (aim queues) most holders puts take → (k : ℕ) (side : PutSide S T) → slice_get puts k ≡ Some side → side ≡ new_put take.who.queue k
  new_side queues puts take opened k side there =
      let who = opened.sides.same k side there in
      let put = opened.put k side there in
      λ i. record { who = who i; put = put.0 i; full = put.1 i }

  pub one_lane_more : (queues : ℕ) (rows : List (List (PutSide S T))) (takes : List (TakeSide S T)) (puts : List (PutSide S T)) (take : TakeSide S T) → AreLanes aim most holders queues rows takes
      → AreOpened (aim queues) most holders puts take → AreLanes aim most holders (queues + 1) (each_with rows puts) (takes ++ take ∷ [])
  one_lane_more queues rows takes puts take lanes opened =
      let same : length puts ≡ length rows = opened.sides.count ∙ opened.count ∙ sym lanes.rows_are in
      record {
        rows_are = length-each_with rows puts ∙ lanes.rows_are;
        takes_are = omega (arith, length-append takes (take ∷ []), lanes.takes_are);
        row = λ k longer there.
            let l = longer_row rows puts k longer same there in
            omega (arith, ap length l.is, length-append l.row (l.x ∷ []), lanes.row k l.row l.row_there);
        new = each_pushed (λ q t. IsNewQueue (aim q) most holders t) takes take lanes.new
            (subst (λ n. IsNewQueue (aim n) most holders take) (sym lanes.takes_are)
            (record { purpose = opened.purpose; capacity = opened.capacity; count = opened.count; queue_sides = opened.queue_sides; took = opened.took.0; empty = opened.took.1 }));
        put = λ k q longer side t longer_there there t_there.
            let l = longer_row rows puts k longer same longer_there in
            let count = lanes.row k l.row l.row_there in
            ⊎_elim
            (λ (old : slice_get l.row q ≡ Some side). ⊎_elim
            (λ (told : slice_get takes q ≡ Some t). lanes.put k q l.row side t l.row_there old told)
            (λ (new : (q ≡ length takes) × (take ≡ t)). absurd (omega (arith, slice_get_within l.row q side old, count, new.0, lanes.takes_are)))
            (slice_get-last takes take q t t_there))
            (λ (new : (q ≡ length l.row) × (l.x ≡ side)). ⊎_elim
            (λ (told : slice_get takes q ≡ Some t). absurd (omega (arith, slice_get_within takes q t told, count, new.0, lanes.takes_are)))
            (λ (here : (q ≡ length takes) × (take ≡ t)).
            sym new.1 ∙ new_side queues puts take opened k l.x l.x_there ∙ ap (λ (u : TakeSide S T). new_put u.who.queue k) here.1)
            (slice_get-last takes take q t t_there))
            (slice_get-last l.row l.x q side (ap (λ xs. slice_get xs q) (sym l.is) ∙ there));
      }

-- a list without its first element
pub removed : {X : Type 0} (xs : List X) (x : X) → 0 < length xs → x ≡ get_or xs 0 x → xs ≡ x ∷ remove xs 0
removed [] x some is = absurd (omega (arith, some))
removed (y ∷ ys) x some is = ap (λ z. z ∷ ys) (sym is)

lists_set : {X : Type 0} (rows : List (Vec X)) (n : ℕ) (row : Vec X) → lists (set rows n row) ≡ set (lists rows) n row.items
lists_set [] n row = refl
lists_set (r ∷ rows) zero row = refl
lists_set (r ∷ rows) (suc n) row = ap (λ rs. r.items ∷ rs) (lists_set rows n row)

-- one row more has its element
pub row_handed : {X : Type 0} (rows : List (Vec X)) (items : List X) (n : ℕ) (x : X) (row longer : Vec X) (whole : List (List X)) → n < length rows → 0 < length items → x ≡ get_or items 0 x → slice_get rows n ≡ Some row
    → longer.items ≡ row.items ++ x ∷ [] → take n (lists rows) ++ each_with (drop n (lists rows)) items ≡ whole
    → take (n + 1) (lists (set rows n longer)) ++ each_with (drop (n + 1) (lists (set rows n longer))) (remove items 0) ≡ whole
row_handed rows items n x row longer whole within some first there is before =
    let made = lists_set rows n longer ∙ ap (λ r. set (lists rows) n r) is in
    let there' : slice_get (lists rows) n ≡ Some row.items = slice_get-map (λ (r : Vec _). r.items) rows n ∙ ap (option_map (λ (r : Vec _). r.items)) there in
    let next : n + 1 ≡ suc n = omega arith in
    ap (λ rs. take (n + 1) rs ++ each_with (drop (n + 1) rs) (remove items 0)) made
    ∙ ap (λ m. take m (set (lists rows) n (row.items ++ x ∷ [])) ++ each_with (drop m (set (lists rows) n (row.items ++ x ∷ []))) (remove items 0)) next
    ∙ handed_more (lists rows) (remove items 0) n x row.items (omega (arith, within, length-map rows (λ (r : Vec _). r.items))) there'
    ∙ ap (λ xs. take n (lists rows) ++ each_with (drop n (lists rows)) xs) (sym (removed items x some first)) ∙ before

-- each by its number

pub from_each : {X : Type 0} (P : ℕ → X → Type 0) (n : ℕ) (xs : List X) → ((k : ℕ) (x : X) → slice_get xs k ≡ Some x → P (n + k) x) → AreFrom P n xs
from_each P n [] each = tt
from_each {X} P n (x ∷ xs) each =
    let first : n + 0 ≡ n = omega arith in
    (subst (λ m. P m x) first (each 0 x refl), from_each P (n + 1) xs (λ k y there. let next : n + suc k ≡ n + 1 + k = omega arith in subst (λ m. P m y) next (each (suc k) y there)))

-- the first of them
pub first_of_row : {X : Type 0} (P : ℕ → X → Type 0) (n : ℕ) (xs : List X) (x : X) → xs ≡ x ∷ remove xs 0 → AreFrom P n xs → P n x × AreFrom P (n + 1) (remove xs 0)
first_of_row P n xs x is each = subst (AreFrom P n) is each

pub record IsEach {X Y Z : Type 0} (P : ℕ → List X → Y → Z → Type 0) (n k : ℕ) (rows : List (List X)) (ys : List Y) (z : Z) : Type 0 where
  pub row : List X
  pub y : Y
  pub row_there : slice_get rows k ≡ Some row
  pub y_there : slice_get ys k ≡ Some y
  pub is : P (n + k) row y z

pub each_at : {X Y Z : Type 0} (P : ℕ → List X → Y → Z → Type 0) (n k : ℕ) (rows : List (List X)) (ys : List Y) (zs : List Z) (z : Z) → AreEach P n rows ys zs → slice_get zs k ≡ Some z → IsEach P n k rows ys z
each_at P n k [] [] [] z each there = cc
each_at P n zero (row ∷ rows) (y ∷ ys) (x ∷ zs) z each there =
    let same : x ≡ z = cc in
    let first : n ≡ n + 0 = omega arith in
    record { row = row; y = y; row_there = refl; y_there = refl; is = subst (λ m. P m row y z) first (subst (P n row y) same each.0) }
each_at P n (suc k) (row ∷ rows) (y ∷ ys) (x ∷ zs) z each there =
    let rest = each_at P (n + 1) k rows ys zs z each.1 there in
    let next : n + 1 + k ≡ n + suc k = omega arith in
    record { row = rest.row; y = rest.y; row_there = rest.row_there; y_there = rest.y_there; is = subst (λ m. P m rest.row rest.y z) next rest.is }
each_at P n k [] [] (x ∷ zs) z each there = absurd each
each_at P n k [] (y ∷ ys) zs z each there = absurd each
each_at P n k (row ∷ rows) [] zs z each there = absurd each
each_at P n k (row ∷ rows) (y ∷ ys) [] z each there = absurd each

pub each_length : {X Y Z : Type 0} (P : ℕ → List X → Y → Z → Type 0) (n : ℕ) (rows : List (List X)) (ys : List Y) (zs : List Z) → AreEach P n rows ys zs → length zs ≡ length rows
each_length P n [] [] [] each = refl
each_length P n (row ∷ rows) (y ∷ ys) (z ∷ zs) each = ap suc (each_length P (n + 1) rows ys zs each.1)
each_length P n [] [] (z ∷ zs) each = absurd each
each_length P n [] (y ∷ ys) zs each = absurd each
each_length P n (row ∷ rows) [] zs each = absurd each
each_length P n (row ∷ rows) (y ∷ ys) [] each = absurd each

-- what completes the rest completes the whole
abbrev pub Completes : {X Y Z : Type 0} → (ℕ → List X → Y → Z → Type 0) → ℕ → List (List X) → List Y → List Z → List (List X) → List Y → Type 0
Completes {Z = Z} P n rows ys zs all_rows all_ys = (rest : List Z) → AreEach P n rows ys rest → AreEach P 0 all_rows all_ys (zs ++ rest)

pub one_each_more : {X Y Z : Type 0} (P : ℕ → List X → Y → Z → Type 0) (n : ℕ) (rows : List (Vec X)) (ys : List Y) (zs more : List Z) (all_rows : List (List X)) (all_ys : List Y) (row : Vec X) (y : Y) (z : Z)
    → rows ≡ row ∷ remove rows 0 → ys ≡ y ∷ remove ys 0 → P n row.items y z → more ≡ zs ++ z ∷ []
    → Completes P n (lists rows) ys zs all_rows all_ys → Completes P (n + 1) (lists (remove rows 0)) (remove ys 0) more all_rows all_ys
one_each_more P n rows ys zs more all_rows all_ys row y z rows_are ys_are is made before = λ rest each.
    let whole = before (z ∷ rest) (subst (λ rs. AreEach P n (lists rs) ys (z ∷ rest)) (sym rows_are) (subst (λ ts. AreEach P n (row.items ∷ lists (remove rows 0)) ts (z ∷ rest)) (sym ys_are) (is, each))) in
    subst (AreEach P 0 all_rows all_ys) (sym (append_assoc zs (z ∷ []) rest) ∙ ap (λ xs. xs ++ rest) (sym made)) whole

pub all_complete : {X Y Z : Type 0} (P : ℕ → List X → Y → Z → Type 0) (n : ℕ) (rows : List (List X)) (ys : List Y) (zs : List Z) (all_rows : List (List X)) (all_ys : List Y) → length rows ≡ 0 → length ys ≡ 0
    → Completes P n rows ys zs all_rows all_ys → AreEach P 0 all_rows all_ys zs
all_complete P n [] [] zs all_rows all_ys none none' before = subst (AreEach P 0 all_rows all_ys) (append-nil zs) (before [] tt)
all_complete P n (row ∷ rows) ys zs all_rows all_ys none none' before = absurd (omega (arith, none))
all_complete P n [] (y ∷ ys) zs all_rows all_ys none none' before = absurd (omega (arith, none'))

pub first_row : {X : Type 0} (P : ℕ → List X → Type 0) (n : ℕ) (rows : List (Vec X)) (row : Vec X) → rows ≡ row ∷ remove rows 0 → AreFrom P n (lists rows) → P n row.items × AreFrom P (n + 1) (lists (remove rows 0))
first_row P n rows row is each = subst (λ rs. AreFrom P n (lists rs)) is each
