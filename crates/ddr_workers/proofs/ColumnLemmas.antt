-- The put sides of a queue, gathered from those who held one side of each queue: one of each holder, in order.
use Rattle.std.proofs.Common.{◌≡◌, ℕ, zero, suc, ◌+◌, ◌<◌, List, [], ◌∷◌, ◌++◌, length, map, replicate, Some, slice_get, length-append, refl, sym, ap, ◌∙◌, subst, arith}
use Rattle.std.specs.Option.{option_map}
use Rattle.std.proofs.lemmas.List.{length-map}
use Rattle.std.proofs.lemmas.Option.{slice_get-map, slice_get_within}
use Rattle.ddr_channel.proofs.ListLemmas.{at_map}
use Rattle.ddr_workers.specs.Gathered.{Gathering, nothing_of, with_all, with_one}
use Rattle.ddr_workers.specs.Joined.{OfEach}
use Rattle.ddr_workers.specs.Lanes.{each_with}
use Rattle.ddr_workers.proofs.ChangedLemmas.{some_there, there_still}
use Rattle.ddr_workers.proofs.GatherLemmas.{gathered_queues, gathered_takes}
use Rattle.ddr_workers.proofs.LaneLemmas.{length-each_with, length-replicate}
use Rattle.ddr_workers.proofs.SideLemmas.{slice_get-here}

longer_at : {X : Type 0} (rows : List (List X)) (xs : List X) (q : ℕ) (row : List X) (x : X) → slice_get rows q ≡ Some row → slice_get xs q ≡ Some x → slice_get (each_with rows xs) q ≡ Some (row ++ x ∷ [])
longer_at [] xs q row x there there' = cc
longer_at (r ∷ rows) [] q row x there there' = cc
longer_at (r ∷ rows) (y ∷ xs) zero row x there there' = let e : r ≡ row = cc in let e' : y ≡ x = cc in λ i. Some (e i ++ e' i ∷ [])
longer_at (r ∷ rows) (y ∷ xs) (suc q) row x there there' = longer_at rows xs q row x there there'

pub same_some : {X : Type 0} (xs : List X) (k : ℕ) (x y : X) → slice_get xs k ≡ Some x → slice_get xs k ≡ Some y → x ≡ y
same_some xs k x y is is' = cc

-- no elements
abbrev the_none : (X : Type 0) → List X
the_none X = []

empty_row : {X : Type 0} (n q : ℕ) → q < n → slice_get (replicate n (the_none X)) q ≡ Some (the_none X)
empty_row zero q within = absurd (omega (arith, within))
empty_row (suc n) zero within = refl
empty_row (suc n) (suc q) within = empty_row n q (omega (arith, within))

-- the put sides of a queue: of each holder the one that leads there
pub record IsOfEach {P E : Type 0} (puts : E → List P) (es : List E) (q : ℕ) (row : List P) : Type 0 where
  pub count : length row ≡ length es
  pub of_each : (p : ℕ) (e : E) → slice_get es p ≡ Some e → slice_get row p ≡ slice_get (puts e) q

module _ {P T E : Type 0} (puts : E → List P) (take : E → T) where
  -- a row after several holders came
  record IsColumn (es : List E) (q : ℕ) (old row : List P) : Type 0 where
    pub count : length row ≡ length old + length es
    pub before : (p : ℕ) (x : P) → slice_get old p ≡ Some x → slice_get row p ≡ Some x
    pub of_each : (p : ℕ) (e : E) → slice_get es p ≡ Some e → slice_get row (length old + p) ≡ slice_get (puts e) q

  record HasColumn (g : Gathering P T) (es : List E) (q : ℕ) (old : List P) : Type 0 where
    pub row : List P
    pub there : slice_get (with_all puts take g es).puts q ≡ Some row
    pub is : IsColumn es q old row

  of_next : (q : ℕ) (e : E) (es : List E) (old row : List P) (x : P) → slice_get (puts e) q ≡ Some x → IsColumn es q (old ++ x ∷ []) row
      → (p : ℕ) (d : E) → slice_get (e ∷ es) p ≡ Some d → slice_get row (length old + p) ≡ slice_get (puts d) q
  of_next q e es old row x has rest zero d there =
      let first : length old + 0 ≡ length old = omega arith in
      let same : e ≡ d = cc in
      ap (slice_get row) first ∙ rest.before (length old) x (slice_get-here old x [] (old ++ x ∷ []) refl) ∙ sym has ∙ ap (λ h. slice_get (puts h) q) same
  of_next q e es old row x has rest (suc p) d there =
      let next : length old + suc p ≡ length (old ++ x ∷ []) + p = omega (arith, length-append old (x ∷ [])) in
      ap (slice_get row) next ∙ rest.of_each p d there

  column : (g : Gathering P T) (es : List E) (q : ℕ) (old : List P) → slice_get g.puts q ≡ Some old → ((p : ℕ) (e : E) → slice_get es p ≡ Some e → length (puts e) ≡ length g.puts) → HasColumn g es q old
  column g [] q old there each = record { row = old; there = there; is = record { count = omega arith; before = λ p x h. h; of_each = λ p e h. cc } }
  column g (e ∷ es) q old there each =
      let found = some_there (puts e) q (omega (arith, slice_get_within g.puts q old there, each 0 e refl)) in
      let next = with_one g (puts e) (take e) in
      let rest = column next es q (old ++ found.0 ∷ []) (longer_at g.puts (puts e) q old found.0 there found.1)
      (λ p d h. each (suc p) d h ∙ sym (length-each_with g.puts (puts e))) in
      record {
        row = rest.row;
        there = rest.there;
        is = record {
          count = omega (arith, rest.is.count, length-append old (found.0 ∷ []));
          before = λ p x h. rest.is.before p x (there_still old (found.0 ∷ []) p x h);
          of_each = of_next q e es old rest.row found.0 found.1 rest.is;
        };
      }

  pub gathered_row : (holders queues : ℕ) (es : List E) (q : ℕ) (row : List P) → ((p : ℕ) (e : E) → slice_get es p ≡ Some e → length (puts e) ≡ queues)
      → q < queues → slice_get (with_all puts take (nothing_of holders queues) es).puts q ≡ Some row → IsOfEach puts es q row
  gathered_row holders queues es q row each within there =
      let c = column (nothing_of holders queues) es q [] (empty_row queues q within) (λ p e h. each p e h ∙ sym (length-replicate queues [])) in
      let same = same_some (with_all puts take (nothing_of holders queues) es).puts q c.row row c.there there in
      subst (IsOfEach puts es q) same (record {
        count = omega (arith, c.is.count);
        of_each = λ p e h. let here : p ≡ 0 + p = omega arith in ap (slice_get c.row) here ∙ c.is.of_each p e h;
      })

-- the queues of one kind: their put sides, gathered from those who hold them, and their take sides, one of each taker
module _ {P T U D E : Type 0} (puts : E → List P) (other : E → U) (take : D → T) (es : List E) (ds : List D) (rows : List (List P)) (ts : List T)
    (rows_are : rows ≡ (with_all puts other (nothing_of (length es) (length ds)) es).puts) (ts_are : ts ≡ map take ds)
    (each : (p : ℕ) (e : E) → slice_get es p ≡ Some e → length (puts e) ≡ length ds) where
  pub as_many_queues : length rows ≡ length ts
  as_many_queues =
      ap length rows_are ∙ gathered_queues puts other (nothing_of (length es) (length ds)) es ∙ length-replicate (length ds) [] ∙ sym (length-map ds take) ∙ sym (ap length ts_are)

  row_of : (q : ℕ) (row : List P) → q < length ds → slice_get rows q ≡ Some row → IsOfEach puts es q row
  row_of q row within there = gathered_row puts other (length es) (length ds) es q row each within (ap (λ rs. slice_get rs q) (sym rows_are) ∙ there)

  -- what holds of each queue by those who hold its sides
  pub of_queues : (Q : List P → T → Type 0) → ((c : ℕ) (d : D) (row : List P) → slice_get ds c ≡ Some d → IsOfEach puts es c row → Q row (take d)) → OfEach Q rows ts
  of_queues Q holds q row t there t_there =
      let d = at_map take ds q t (ap (λ l. slice_get l q) (sym ts_are) ∙ t_there) in
      subst (Q row) d.2 (holds q d.0 row d.1 (row_of q row (slice_get_within ds q d.0 d.1) there))

  pub at_queue : (Q : List P → T → Type 0) → OfEach Q rows ts → (c : ℕ) (d : D) → slice_get ds c ≡ Some d → (row : List P) × IsOfEach puts es c row × Q row (take d)
  at_queue Q all c d there =
      let within = slice_get_within ds c d there in
      let found = some_there rows c (omega (arith, within, as_many_queues, ap length ts_are, length-map ds take)) in
      (found.0, row_of c found.0 within found.1, all c found.0 (take d) found.1 (ap (λ l. slice_get l c) ts_are ∙ slice_get-map take ds c ∙ ap (option_map take) there))

-- what was gathered, by its two parts
pub parts_of : {P T E : Type 0} (puts : E → List P) (take : E → T) (g whole : Gathering P T) (es : List E) (holders queues : ℕ) (rows : List (List P)) (ts : List T) → rows ≡ whole.puts → ts ≡ whole.takes
    → whole ≡ with_all puts take g es → g ≡ nothing_of holders queues → (rows ≡ (with_all puts take (nothing_of holders queues) es).puts) × (ts ≡ map take es)
parts_of puts take g whole es holders queues rows ts rows_are ts_are is first =
    let same = is ∙ ap (λ h. with_all puts take h es) first in
    (rows_are ∙ ap (λ (h : Gathering _ _). h.puts) same, ts_are ∙ ap (λ (h : Gathering _ _). h.takes) same ∙ gathered_takes puts take (nothing_of holders queues) es)
