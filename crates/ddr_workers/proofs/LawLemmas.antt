-- Each kind of step keeps the rule of a queue, and what the rule tells.
use Rattle.std.proofs.Common.{◌≡◌, ◌≢◌, ℕ, zero, suc, ◌<◌, ◌≤◌, ◌⊎◌, Bool, true, false, cond, eqb, eq-eqb, ne_eqb, List, [], ◌∷◌, ◌++◌, length, get_or, set, All, sym, refl, ap, ◌∙◌, subst, inl, inr, ⊎_elim, append_assoc, append-nil, arith}
use mathlib.Core.Option.{Option, none, some, some-injective, some-ne-none}
use lib.ListN.{get_elem?}
use Rattle.std.proofs.Math.ListN.{get_or-append}
use Rattle.std.proofs.Math.Seq.{get_or-append_seam}
use Rattle.std.proofs.lemmas.List.{length-append}
use Rattle.std.proofs.lemmas.Bool.{cases_lt}
use Rattle.std.proofs.lemmas.Bool.Decides.{eqb_tells}
use Rattle.std.proofs.lemmas.List.Elements.{filter-append, All-nil, All-cons}
use Rattle.crossbeam_queue.specs.Fifo.{Pushes, Pops, Forks, Merges, Learns}
use Rattle.crossbeam_queue.proofs.Lists.{at_set}
use Rattle.ddr_workers.specs.declared.law.Putting.{Putting}
use Rattle.ddr_workers.specs.declared.law.Taking.{Taking}
use Rattle.ddr_workers.specs.declared.law.View.{View}
use Rattle.ddr_workers.specs.declared.law.View.TheVariants.{Unset, Put, Take, Gone}
use Rattle.ddr_workers.specs.Law.{Shared, IsPutter, IsTaker, Fits, of_source, Kept, Ruled, Before, Behind, TellsPut, TellsTake, new_taking, with_put, with_full, with_taken, with_empty, with_another, another, with_back}

-- a new last element is at the end alone
at_end : {A : Type 0} (l : List A) (a b : A) (j : ℕ) → get_elem? (l ++ a ∷ []) j ≡ some b → (get_elem? l j ≡ some b) ⊎ ((j ≡ length l) × (a ≡ b))
at_end [] a b zero e = inr (refl, some-injective a b e)
at_end [] a b (suc j) e = absurd (some-ne-none b (sym e))
at_end (x ∷ xs) a b zero e = inl e
at_end (x ∷ xs) a b (suc j) e = ⊎_elim inl (λ (t : (j ≡ length xs) × (a ≡ b)). inr (ap suc t.0, t.1)) (at_end xs a b j e)

-- after one pass's view changes, what holds of it and of every other view holds of each
each_set : {V : Type 0} (F : ℕ → V → Type 0) (views : List V) (pass : ℕ) (w : V) → F pass w → ((j : ℕ) (u : V) → j ≢ pass → get_elem? views j ≡ some u → F j u)
    → (j : ℕ) (u : V) → get_elem? (set views pass w) j ≡ some u → F j u
each_set {V} F views pass w mine others j u e =
    ⊎_elim (λ (t : (j ≡ pass) × (w ≡ u)). subst (λ (y : ℕ × V). F y.0 y.1) (λ i. (sym t.0 i, t.1 i)) mine) (λ (t : (j ≢ pass) × (get_elem? views j ≡ some u)). others j u t.0 t.1) (at_set views pass j w u e)

-- what came back before, and what came back last
at_back : {A : Type 0} (bs : List (List A)) (b : List A) (p : ℕ) → p < length (bs ++ b ∷ [])
    → ((p < length bs) × (get_or (bs ++ b ∷ []) p [] ≡ get_or bs p [])) ⊎ ((p ≡ length bs) × (get_or (bs ++ b ∷ []) p [] ≡ b))
at_back bs b p l = ⊎_elim (λ (h : p < length bs). inl (h, get_or-append bs (b ∷ []) [] p h))
    (λ (h : length bs ≤ p). let e : p ≡ length bs = omega (arith, length-append bs (b ∷ [])) in inr (e, ap (λ k. get_or (bs ++ b ∷ []) k []) e ∙ get_or-append_seam bs b [] []))
    (cases_lt p (length bs))

module _ {S T : Type 0} (source : S → T → ℕ) (Proper : S → List T → Type 0) where
  one_own : (c : S) (p : ℕ) (x : T) → source c x ≡ p → of_source source Proper c p (x ∷ []) ≡ x ∷ []
  one_own c p x e = rw (eq-eqb (source c x) p e)

  one_other : (c : S) (p : ℕ) (x : T) → p ≢ source c x → of_source source Proper c p (x ∷ []) ≡ []
  one_other c p x n = rw (ne_eqb (source c x) p (λ e. n (sym e)))

  abbrev fresh_views : List (View S T)
  fresh_views = Unset ∷ []

  unset_alone : (j : ℕ) (v : View S T) → Unset ≢ v → get_elem? fresh_views j ≡ some v → ⊥
  unset_alone zero v n e = n (some-injective _ _ e)
  unset_alone (suc j) v n e = some-ne-none v (sym e)

  -- a view of a side is seen only once the queue is told what it is for
  told : (items : List T) (views : List (View S T)) (pass : ℕ) (v : View S T) → Unset ≢ v → Ruled source Proper items views → get_elem? views pass ≡ some v → Kept source Proper items views
  told items views pass v n (inl u) at = absurd (unset_alone pass v n (ap (λ l. get_elem? l pass) (sym u.1) ∙ at))
  told items views pass v n (inr k) at = k

  told_put : (items : List T) (views : List (View S T)) (pass : ℕ) (s : Putting S T) → Ruled source Proper items views → get_elem? views pass ≡ some (Put s) → Kept source Proper items views
  told_put items views pass s = told items views pass (Put s) (λ e. cc)

  told_take : (items : List T) (views : List (View S T)) (pass : ℕ) (t : Taking S T) → Ruled source Proper items views → get_elem? views pass ≡ some (Take t) → Kept source Proper items views
  told_take items views pass t = told items views pass (Take t) (λ e. cc)

  -- two passes of one put side are one, and a side that is made is no other
  same_seat : (seats : ℕ → Option ℕ) (p q i j : ℕ) → seats p ≡ some i → seats q ≡ some j → j ≢ i → q ≢ p
  same_seat seats p q i j at_p at_q apart e = apart (some-injective j i (sym at_q ∙ ap seats e ∙ at_p))

  taken_seat : (seats : ℕ → Option ℕ) (p q i : ℕ) → seats p ≡ some i → seats q ≡ none → q ≢ p
  taken_seat seats p q i at_p at_q e = some-ne-none i (sym at_p ∙ ap seats (sym e) ∙ at_q)

  -- The queue before it is told what it is for, and when it is told
  pub begins : Ruled source Proper [] (Unset ∷ [])
  begins = inl (refl, refl)

  first_shared : S → ℕ → Shared S T
  first_shared purpose sides = record { purpose = purpose; sides = sides; taker = 0; putter = λ _. none; took = []; put = λ _. [] }

  first_fits : (purpose : S) (sides j : ℕ) (u : View S T) → get_elem? (Take (new_taking purpose sides) ∷ Gone ∷ []) j ≡ some u → Fits (first_shared purpose sides) j u
  unfolding first_shared
  first_fits purpose sides zero u e = subst (Fits (first_shared purpose sides) 0) (some-injective _ u e)
      (record { purpose = refl; sides = refl; seat = refl; took = refl; not_made = λ _ _. (refl, refl); back = λ p h. absurd (omega arith); back_made = omega arith })
  first_fits purpose sides (suc zero) u e = subst (Fits (first_shared purpose sides) 1) (some-injective _ u e) tt
  first_fits purpose sides (suc (suc j)) u e = absurd (some-ne-none u (sym e))

  first_kept : (purpose : S) (sides : ℕ) → Proper purpose [] → Kept source Proper [] (Take (new_taking purpose sides) ∷ Gone ∷ [])
  unfolding first_shared
  first_kept purpose sides proper = record { all = first_shared purpose sides; order = λ p. refl; proper = λ p. proper; none_else = λ p h. (refl, refl); fits = first_fits purpose sides }

  first_place : (j : ℕ) (v : View S T) → get_elem? fresh_views j ≡ some v → j ≡ 0
  first_place zero v e = refl
  first_place (suc j) v e = absurd (some-ne-none v (sym e))

  pub sets : (purpose : S) (sides : ℕ) → Proper purpose [] → (pass : ℕ) → Forks (Ruled source Proper) pass Unset (Take (new_taking purpose sides)) Gone
  sets purpose sides proper pass items views (inl u) at =
      let here : pass ≡ 0 = first_place pass Unset (ap (λ l. get_elem? l pass) (sym u.1) ∙ at) in
      let then : set views pass (Take (new_taking purpose sides)) ++ Gone ∷ [] ≡ Take (new_taking purpose sides) ∷ Gone ∷ [] = (λ i. set (u.1 i) (here i) (Take (new_taking purpose sides)) ++ Gone ∷ []) in
      inr (subst (λ (y : List T × List (View S T)). Kept source Proper y.0 y.1) (λ i. (sym u.0 i, sym then i)) (first_kept purpose sides proper))
  sets purpose sides proper pass items views (inr k) at = absurd (k.fits pass Unset at)

  -- A view changes in its counter alone
  pub counts_full : (pass : ℕ) (s : Putting S T) → Forks (Ruled source Proper) pass (Put s) (with_full (Put s)) Gone
  counts_full pass s items views h at = let k = told_put items views pass s h at in let mine : IsPutter k.all pass s = k.fits pass (Put s) at in let w : View S T = with_full (Put s) in inr (record {
    all = k.all;
    order = k.order;
    proper = k.proper;
    none_else = k.none_else;
    fits = λ j u e. ⊎_elim (each_set (Fits k.all) views pass w (record { purpose = mine.purpose; sides = mine.sides; seat = mine.seat; put = mine.put }) (λ i v _ e'. k.fits i v e') j u)
        (λ (g : (j ≡ length (set views pass w)) × (Gone ≡ u)). subst (Fits k.all j) g.1 tt) (at_end (set views pass w) Gone u j e);
  })

  pub counts_empty : (pass : ℕ) (t : Taking S T) → Forks (Ruled source Proper) pass (Take t) (with_empty (Take t)) Gone
  counts_empty pass t items views h at = let k = told_take items views pass t h at in let mine : IsTaker k.all pass t = k.fits pass (Take t) at in let w : View S T = with_empty (Take t) in inr (record {
    all = k.all;
    order = k.order;
    proper = k.proper;
    none_else = k.none_else;
    fits = λ j u e. ⊎_elim
        (each_set (Fits k.all) views pass w (record { purpose = mine.purpose; sides = mine.sides; seat = mine.seat; took = mine.took; not_made = mine.not_made; back = mine.back; back_made = mine.back_made })
        (λ i v _ e'. k.fits i v e') j u)
        (λ (g : (j ≡ length (set views pass w)) × (Gone ≡ u)). subst (Fits k.all j) g.1 tt) (at_end (set views pass w) Gone u j e);
  })

  -- A push: the list of its side grows by the item, and no other
  module _ (all : Shared S T) (x : T) where
    grown : Shared S T
    grown = record all { put = λ p. all.put p ++ of_source source Proper all.purpose p (x ∷ []) }

    grown_other : (p : ℕ) → p ≢ source all.purpose x → grown.put p ≡ all.put p
    unfolding grown
    grown_other p n = ap (λ l. all.put p ++ l) (one_other all.purpose p x n) ∙ append-nil (all.put p)

    grown_own : (p : ℕ) → source all.purpose x ≡ p → grown.put p ≡ all.put p ++ x ∷ []
    unfolding grown
    grown_own p e = ap (λ l. all.put p ++ l) (one_own all.purpose p x e)

    grown_proper : (p : ℕ) → (source all.purpose x ≡ p → Proper all.purpose (all.put p ++ x ∷ [])) → Proper all.purpose (all.put p) → Proper all.purpose (grown.put p)
    grown_proper p own before = ⊎_elim (λ (e : (eqb (source all.purpose x) p ≡ true) × (source all.purpose x ≡ p)). subst (Proper all.purpose) (sym (grown_own p e.1)) (own e.1))
        (λ (e : (eqb (source all.purpose x) p ≡ false) × (source all.purpose x ≢ p)). subst (Proper all.purpose) (sym (grown_other p (λ q. e.1 (sym q)))) before) (eqb_tells (source all.purpose x) p)

    grown_fits : (pass : ℕ) (j : ℕ) (u : View S T) → all.putter (source all.purpose x) ≡ some pass → j ≢ pass → Fits all j u → Fits grown j u
    unfolding grown
    grown_fits pass j Unset seat apart f = f
    grown_fits pass j Gone seat apart f = f
    grown_fits pass j (Put s) seat apart f =
        record { purpose = f.purpose; sides = f.sides; seat = f.seat; put = f.put ∙ sym (grown_other s.source (same_seat all.putter (source all.purpose x) s.source pass j seat f.seat apart)) }
    grown_fits pass j (Take t) seat apart f = record {
      purpose = f.purpose;
      sides = f.sides;
      seat = f.seat;
      took = f.took;
      not_made = λ p h. ((f.not_made p h).0, grown_other p (taken_seat all.putter (source all.purpose x) p pass seat (f.not_made p h).0) ∙ (f.not_made p h).1);
      back = λ p h. ((f.back p h).0, (f.back p h).1 ∙ sym (grown_other p (taken_seat all.putter (source all.purpose x) p pass seat (f.back p h).0)));
      back_made = f.back_made;
    }

  pub pushes : (n pass : ℕ) (s : Putting S T) (x : T) → source s.purpose x ≡ s.source → (Proper s.purpose s.put → Proper s.purpose (s.put ++ x ∷ []))
      → Pushes (Ruled source Proper) n pass (Put s) x (λ w. w ≡ with_put (Put s) x)
  unfolding grown
  pushes n pass s x own proper items views room h at =
      let k = told_put items views pass s h at in
      let mine : IsPutter k.all pass s = k.fits pass (Put s) at in
      let w : View S T = with_put (Put s) x in
      let here : source k.all.purpose x ≡ s.source = ap (λ c. source c x) (sym mine.purpose) ∙ own in
      let seat : k.all.putter (source k.all.purpose x) ≡ some pass = ap k.all.putter here ∙ mine.seat in
      let put : s.put ≡ k.all.put (source k.all.purpose x) = mine.put ∙ ap k.all.put (sym here) in (
        w,
        inr (record {
          all = grown k.all x;
          order = λ p. ap (of_source source Proper k.all.purpose p) (sym (append_assoc k.all.took items (x ∷ []))) ∙ filter-append (λ y. eqb (source k.all.purpose y) p) (k.all.took ++ items) (x ∷ [])
              ∙ ap (λ l. l ++ of_source source Proper k.all.purpose p (x ∷ [])) (k.order p);
          proper = λ p. grown_proper k.all x p
              (λ e. subst (λ (y : S × List T). Proper y.0 (y.1 ++ x ∷ [])) (λ i. (mine.purpose i, (put ∙ ap k.all.put e) i))
              (proper (subst (λ (y : S × List T). Proper y.0 y.1) (λ i. (sym mine.purpose i, sym mine.put i)) (k.proper s.source))))
              (k.proper p);
          none_else = λ p h. let no_side = k.none_else p h in (no_side.0, grown_other k.all x p (taken_seat k.all.putter (source k.all.purpose x) p pass seat no_side.0) ∙ no_side.1);
          fits = each_set (Fits (grown k.all x)) views pass w
              (record { purpose = mine.purpose; sides = mine.sides; seat = mine.seat; put = ap (λ l. l ++ x ∷ []) mine.put ∙ sym (grown_own k.all x s.source here) })
              (λ j u apart e. grown_fits k.all x pass j u seat apart (k.fits j u e));
        }),
        refl,
      )

  -- What the rule tells the sides
  none_of : (c : S) (x : T) (xs : List T) (p : ℕ) → of_source source Proper c p (x ∷ xs) ≡ [] → of_source source Proper c p xs ≡ []
  none_of c x xs p = none_behind (eqb (source c x) p) where
    none_behind : (b : Bool) → cond b (x ∷ of_source source Proper c p xs) (of_source source Proper c p xs) ≡ [] → of_source source Proper c p xs ≡ []
    none_behind true e = cc
    none_behind false e = e

  pub some_of : (c : S) (x : T) (xs : List T) (p : ℕ) → source c x ≡ p → of_source source Proper c p (x ∷ xs) ≢ []
  some_of c x xs p own = rw (eq-eqb (source c x) p own) (λ e. cc)

  all_below : (c : S) (count : ℕ) (xs : List T) → ((p : ℕ) → count ≤ p → of_source source Proper c p xs ≡ []) → All (λ x. source c x < count) xs
  all_below c count [] h = All-nil (λ x. source c x < count)
  all_below c count (x ∷ xs) h = All-cons (λ x. source c x < count) x xs
      (⊎_elim (λ l. l) (λ (l : count ≤ source c x). absurd (some_of c x xs (source c x) refl (h (source c x) l))) (cases_lt (source c x) count))
      (all_below c count xs (λ p m. none_of c x xs p (h p m)))

  tells_taker : (items : List T) (views : List (View S T)) (pass : ℕ) (t : Taking S T) → Kept source Proper items views → get_elem? views pass ≡ some (Take t) → Behind source Proper t items
  tells_taker items views pass t k at =
      let mine : IsTaker k.all pass t = k.fits pass (Take t) at in
      let put : (p : ℕ) → of_source source Proper t.purpose p (t.took ++ items) ≡ k.all.put p = λ p. (λ i. of_source source Proper (mine.purpose i) p (mine.took i ++ items)) ∙ k.order p in
      record {
        made = all_below t.purpose t.count (t.took ++ items) (λ p h. put p ∙ (mine.not_made p h).1);
        proper = λ p. subst (λ (y : S × List T). Proper y.0 y.1) (λ i. (sym mine.purpose i, sym (put p) i)) (k.proper p);
        back = λ p h. put p ∙ sym (mine.back p h).1;
      }

  tells_putter : (items : List T) (views : List (View S T)) (pass : ℕ) (s : Putting S T) → Kept source Proper items views → get_elem? views pass ≡ some (Put s) → Before source Proper s items
  tells_putter items views pass s k at =
      let mine : IsPutter k.all pass s = k.fits pass (Put s) at in
      let put : (p : ℕ) → of_source source Proper s.purpose p (k.all.took ++ items) ≡ k.all.put p = λ p. (λ i. of_source source Proper (mine.purpose i) p (k.all.took ++ items)) ∙ k.order p in
      record {
        took = k.all.took;
        made = all_below s.purpose s.sides (k.all.took ++ items) (λ p h. put p ∙ (k.none_else p (subst (λ n. n ≤ p) mine.sides h)).1);
        own = put s.source ∙ sym mine.put;
        proper = λ p. subst (λ (y : S × List T). Proper y.0 y.1) (λ i. (sym mine.purpose i, sym (put p) i)) (k.proper p);
      }

  pub learns_put : (pass : ℕ) (s : Putting S T) → Learns (Ruled source Proper) pass (Put s) (Before source Proper s)
  learns_put pass s items views h at = tells_putter items views pass s (told_put items views pass s h at) at

  pub learns_take : (pass : ℕ) (t : Taking S T) → Learns (Ruled source Proper) pass (Take t) (Behind source Proper t)
  learns_take pass t items views h at = tells_taker items views pass t (told_take items views pass t h at) at

  -- no other pass is the take side's, so what was taken may change
  other_fits : (all after : Shared S T) (taker j : ℕ) (u : View S T) → taker ≡ all.taker → j ≢ taker → after.purpose ≡ all.purpose → after.sides ≡ all.sides → after.putter ≡ all.putter → after.put ≡ all.put → Fits all j u → Fits after j u
  other_fits all after taker j Unset seat apart a n b c f = f
  other_fits all after taker j Gone seat apart a n b c f = f
  other_fits all after taker j (Put s) seat apart a n b c f =
      record { purpose = f.purpose ∙ sym a; sides = f.sides ∙ sym n; seat = ap (λ (g : ℕ → Option ℕ). g s.source) b ∙ f.seat; put = f.put ∙ ap (λ (g : ℕ → List T). g s.source) (sym c) }
  other_fits all after taker j (Take t) seat apart a n b c f = absurd (apart (f.seat ∙ sym seat))

  -- A pop: the item moves from the queue to what was taken
  pub pops : (pass : ℕ) (t : Taking S T)
      → Pops (Ruled source Proper) pass (Take t) (λ x w. (w ≡ with_taken (Take t) x) × ((rest : List T) × Behind source Proper t (x ∷ rest)))
  pops pass t x items views h at =
      let k = told_take (x ∷ items) views pass t h at in
      let mine : IsTaker k.all pass t = k.fits pass (Take t) at in
      let w : View S T = with_taken (Take t) x in
      let after : Shared S T = record k.all { took = k.all.took ++ x ∷ [] } in (
        w,
        inr (record {
          all = after;
          order = λ p. ap (of_source source Proper k.all.purpose p) (append_assoc k.all.took (x ∷ []) items) ∙ k.order p;
          proper = k.proper;
          none_else = k.none_else;
          fits = each_set (Fits after) views pass w
              (record { purpose = mine.purpose; sides = mine.sides; seat = mine.seat; took = ap (λ l. l ++ x ∷ []) mine.took; not_made = mine.not_made; back = mine.back; back_made = mine.back_made })
              (λ j u apart e. other_fits k.all after pass j u mine.seat apart refl refl refl refl (k.fits j u e));
        }),
        (refl, (items, tells_taker (x ∷ items) views pass t k at)),
      )

  -- One put side's seat changes
  module _ (all : Shared S T) (q : ℕ) (v : Option ℕ) where
    seated : Shared S T
    seated = record all { putter = λ p. cond (eqb p q) v (all.putter p) }

    seated_here : seated.putter q ≡ v
    unfolding seated
    seated_here = rw (eq-eqb q q refl)

    seated_else : (p : ℕ) → p ≢ q → seated.putter p ≡ all.putter p
    unfolding seated
    seated_else p n = rw (ne_eqb p q n)

    seated_none : (p : ℕ) → (p ≡ q → v ≡ none) → all.putter p ≡ none → seated.putter p ≡ none
    seated_none p here none_there = ⊎_elim (λ (e : (eqb p q ≡ true) × (p ≡ q)). ap seated.putter e.1 ∙ seated_here ∙ here e.1)
        (λ (e : (eqb p q ≡ false) × (p ≢ q)). seated_else p e.1 ∙ none_there) (eqb_tells p q)

    -- the views of the other put sides fit as before
    seated_fits : (taker j : ℕ) (u : View S T) → taker ≡ all.taker → j ≢ taker → (all.putter q ≡ some j → ⊥) → Fits all j u → Fits seated j u
    unfolding seated
    seated_fits taker j Unset seat apart free f = f
    seated_fits taker j Gone seat apart free f = f
    seated_fits taker j (Put s) seat apart free f =
        record { purpose = f.purpose; sides = f.sides; seat = seated_else s.source (λ e. free (ap all.putter (sym e) ∙ f.seat)) ∙ f.seat; put = f.put }
    seated_fits taker j (Take t) seat apart free f = absurd (apart (f.seat ∙ sym seat))

  -- The take side makes another put side
  pub makes : (pass : ℕ) (t : Taking S T) → t.count < t.sides → Forks (Ruled source Proper) pass (Take t) (with_another (Take t)) (another (Take t))
  unfolding seated
  makes pass t more items views h at =
      let k = told_take items views pass t h at in
      let mine : IsTaker k.all pass t = k.fits pass (Take t) at in
      let w : View S T = with_another (Take t) in
      let fresh = mine.not_made t.count (omega arith) in
      let end : ℕ = length (set views pass w) in
      let after : Shared S T = seated k.all t.count (some end) in
      inr (record {
        all = after;
        order = k.order;
        proper = k.proper;
        none_else = λ p l. let no_side = k.none_else p l in (seated_none k.all t.count (some end) p (λ q. absurd (omega (arith, more, mine.sides, l, q))) no_side.0, no_side.1);
        fits = λ j u e. ⊎_elim
            (each_set (Fits after) views pass w
            (record {
              purpose = mine.purpose;
              sides = mine.sides;
              seat = mine.seat;
              took = mine.took;
              not_made = λ p l. (seated_none k.all t.count (some end) p (λ q. absurd (omega arith)) (mine.not_made p (omega arith)).0, (mine.not_made p (omega arith)).1);
              back = λ p l. (seated_none k.all t.count (some end) p (λ q. absurd (omega (arith, mine.back_made))) (mine.back p l).0, (mine.back p l).1);
              back_made = omega (arith, mine.back_made);
            })
            (λ i v apart e'. seated_fits k.all t.count (some end) pass i v mine.seat apart (λ q. some-ne-none i (sym q ∙ fresh.0)) (k.fits i v e')) j u)
            (λ (g : (j ≡ end) × (another (Take t) ≡ u)). subst (λ (y : ℕ × View S T). Fits after y.0 y.1) (λ i. (sym g.0 i, g.1 i))
            (record { purpose = mine.purpose; sides = mine.sides; seat = seated_here k.all t.count (some end); put = sym fresh.1 }))
            (at_end (set views pass w) (another (Take t)) u j e);
      })

  -- A put side gives its pass back to the take side: the next one in order
  pub gives_back : (pass : ℕ) (t : Taking S T) (other : ℕ) (s : Putting S T) → s.source ≡ length t.back
      → Merges (Ruled source Proper) pass (Take t) other (Put s) (with_back (Take t) (Put s)) Gone
  unfolding seated
  gives_back pass t other s next items views h at two at' =
      let k = told_take items views pass t h at in
      let mine : IsTaker k.all pass t = k.fits pass (Take t) at in
      let w : View S T = with_back (Take t) (Put s) in
      let was : get_elem? views other ≡ some (Put s) = ⊎_elim (λ (x : (other ≡ pass) × (w ≡ Put s)). absurd (two x.0)) (λ (x : (other ≢ pass) × (get_elem? views other ≡ some (Put s))). x.1) (at_set views pass other w (Put s) at') in
      let theirs : IsPutter k.all other s = k.fits other (Put s) was in
      let below : s.source < t.count = ⊎_elim (λ l. l) (λ (l : t.count ≤ s.source). absurd (some-ne-none other (sym theirs.seat ∙ (mine.not_made s.source l).0))) (cases_lt s.source t.count) in
      let after : Shared S T = seated k.all s.source none in
      let Now : ℕ → View S T → Type 0 = λ j u. j ≢ other → Fits after j u in
      let taker : IsTaker after pass (record t { back = t.back ++ s.put ∷ [] }) = record {
        purpose = mine.purpose;
        sides = mine.sides;
        seat = mine.seat;
        took = mine.took;
        not_made = λ p l. (seated_none k.all s.source none p (λ _. refl) (mine.not_made p l).0, (mine.not_made p l).1);
        back = λ p l. ⊎_elim
            (λ (e : (p < length t.back) × (get_or (t.back ++ s.put ∷ []) p [] ≡ get_or t.back p [])).
            (seated_none k.all s.source none p (λ _. refl) (mine.back p e.0).0, e.1 ∙ (mine.back p e.0).1))
            (λ (e : (p ≡ length t.back) × (get_or (t.back ++ s.put ∷ []) p [] ≡ s.put)).
            (ap after.putter (e.0 ∙ sym next) ∙ seated_here k.all s.source none, e.1 ∙ theirs.put ∙ ap k.all.put (next ∙ sym e.0)))
            (at_back t.back s.put p l);
        back_made = omega (arith, length-append t.back (s.put ∷ []));
      } in
      let now : (j : ℕ) (u : View S T) → get_elem? (set views pass w) j ≡ some u → Now j u =
      each_set Now views pass w (λ _. taker)
      (λ j u apart e not_other. seated_fits k.all s.source none pass j u mine.seat apart (λ q. not_other (some-injective j other (sym q ∙ theirs.seat))) (k.fits j u e)) in
      inr (record {
        all = after;
        order = k.order;
        proper = k.proper;
        none_else = λ p l. let no_side = k.none_else p l in (seated_none k.all s.source none p (λ _. refl) no_side.0, no_side.1);
        fits = each_set (Fits after) (set views pass w) other Gone tt (λ j u apart e. now j u e apart);
      })

  -- The same at a view that is known to be a side's
  pub learns_put_at : (pass : ℕ) (v : View S T) (s : Putting S T) → v ≡ Put s → Learns (Ruled source Proper) pass v (TellsPut source Proper v)
  learns_put_at pass v s e = subst (λ u. Learns (Ruled source Proper) pass u (TellsPut source Proper u)) (sym e) (learns_put pass s)

  pub counts_full_at : (pass : ℕ) (v w : View S T) (s : Putting S T) → v ≡ Put s → w ≡ v → Forks (Ruled source Proper) pass w (with_full w) Gone
  counts_full_at pass v w s e same = subst (λ u. Forks (Ruled source Proper) pass u (with_full u) Gone) (sym (same ∙ e)) (counts_full pass s)

  pub pops_at : (pass : ℕ) (v : View S T) (t : Taking S T) → v ≡ Take t
      → Pops (Ruled source Proper) pass v (λ x w. (w ≡ with_taken v x) × ((rest : List T) × TellsTake source Proper v (x ∷ rest)))
  pops_at pass v t e =
      subst (λ u. Pops (Ruled source Proper) pass u (λ x w. (w ≡ with_taken u x) × ((rest : List T) × TellsTake source Proper u (x ∷ rest)))) (sym e) (pops pass t)

  pub learns_take_at : (pass : ℕ) (v : View S T) (t : Taking S T) → v ≡ Take t → Learns (Ruled source Proper) pass v (TellsTake source Proper v)
  learns_take_at pass v t e = subst (λ u. Learns (Ruled source Proper) pass u (TellsTake source Proper u)) (sym e) (learns_take pass t)

  pub counts_empty_at : (pass : ℕ) (v w : View S T) (t : Taking S T) → v ≡ Take t → w ≡ v → Forks (Ruled source Proper) pass w (with_empty w) Gone
  counts_empty_at pass v w t e same = subst (λ u. Forks (Ruled source Proper) pass u (with_empty u) Gone) (sym (same ∙ e)) (counts_empty pass t)

  pub makes_at : (pass : ℕ) (v : View S T) (t : Taking S T) → t.count < t.sides → v ≡ Take t → Forks (Ruled source Proper) pass v (with_another v) (another v)
  makes_at pass v t more e = subst (λ u. Forks (Ruled source Proper) pass u (with_another u) (another u)) (sym e) (makes pass t more)

  pub gives_back_at : (pass : ℕ) (v : View S T) (t : Taking S T) (other : ℕ) (w : View S T) (s : Putting S T) → v ≡ Take t → w ≡ Put s → s.source ≡ length t.back
      → Merges (Ruled source Proper) pass v other w (with_back v w) Gone
  gives_back_at pass v t other w s e f next =
      subst (λ (y : View S T × View S T). Merges (Ruled source Proper) pass y.0 other y.1 (with_back y.0 y.1) Gone) (λ i. (sym e i, sym f i)) (gives_back pass t other s next)
