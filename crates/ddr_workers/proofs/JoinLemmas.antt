-- How a queue ends, at the views of the take side: the put sides come back, and then what is left is taken.
use Rattle.std.proofs.Common.{◌≡◌, ℕ, ◌+◌, ◌-◌, ◌<◌, ◌≤◌, List, [], ◌∷◌, ◌++◌, length, sum_by, All, sym, refl, ap, ◌∙◌, subst, append_assoc, arith}
use Rattle.std.proofs.lemmas.List.{append-nil, length-append}
use Rattle.crossbeam_queue.specs.Fifo.{Merges, Pops, Learns, Held}
use Rattle.ddr_workers.specs.declared.law.Putting.{Putting}
use Rattle.ddr_workers.specs.declared.law.View.{View}
use Rattle.ddr_workers.specs.declared.law.View.TheVariants.{Unset, Put, Take, Gone}
use Rattle.ddr_workers.specs.Law.{of_source, Ruled, TellsTake, with_back, with_taken, with_all_back, with_all_taken, IsAtWork, HasAllBack}
use Rattle.ddr_workers.proofs.LawLemmas.{gives_back, pops, learns_take}
use Rattle.ddr_workers.proofs.TotalLemmas.{total}

module _ {S T : Type 0} where
  -- how many items are left, of those that the put sides that came back had put
  abbrev pub left_of : View S T → ℕ
  left_of (Take t) = sum_by length t.back - length t.took
  left_of v = 0

  pub with_all_taken-nil : (v : View S T) → v ≡ with_all_taken v []
  with_all_taken-nil Unset = refl
  with_all_taken-nil Gone = refl
  with_all_taken-nil (Put s) = refl
  with_all_taken-nil (Take t) = ap (λ l. Take (record t { took = l })) (sym (append-nil t.took))

  HasAllBack-taken : (v : View S T) (xs : List T) → HasAllBack v → HasAllBack (with_all_taken v xs)
  HasAllBack-taken (Take t) xs h = h
  HasAllBack-taken v xs h = absurd h

  left_of-taken : (v : View S T) (xs : List T) → left_of (with_all_taken v xs) ≡ left_of v - length xs
  left_of-taken (Take t) xs = omega (arith, length-append t.took xs)
  left_of-taken Unset xs = omega arith
  left_of-taken Gone xs = omega arith
  left_of-taken (Put s) xs = omega arith

  left_of-next : (v : View S T) (x : T) → left_of (with_taken v x) ≡ left_of v - 1
  left_of-next (Take t) x = omega (arith, length-append t.took (x ∷ []))
  left_of-next Unset x = omega arith
  left_of-next Gone x = omega arith
  left_of-next (Put s) x = omega arith

  with_all_taken-next : (v : View S T) (xs : List T) (x : T) → with_taken (with_all_taken v xs) x ≡ with_all_taken v (xs ++ x ∷ [])
  with_all_taken-next Unset xs x = refl
  with_all_taken-next Gone xs x = refl
  with_all_taken-next (Put s) xs x = refl
  with_all_taken-next (Take t) xs x = ap (λ l. Take (record t { took = l })) (append_assoc t.took xs (x ∷ []))

  with_all_back-nil : (v : View S T) → v ≡ with_all_back v []
  with_all_back-nil Unset = refl
  with_all_back-nil Gone = refl
  with_all_back-nil (Put s) = refl
  with_all_back-nil (Take t) = ap (λ l. Take (record t { back = l })) (sym (append-nil t.back))

  with_all_back-next : (v : View S T) (lists : List (List T)) (s : Putting S T) → with_back (with_all_back v lists) (Put s) ≡ with_all_back v (lists ++ s.put ∷ [])
  with_all_back-next Unset lists s = refl
  with_all_back-next Gone lists s = refl
  with_all_back-next (Put r) lists s = refl
  with_all_back-next (Take t) lists s = ap (λ l. Take (record t { back = l })) (append_assoc t.back lists (s.put ∷ []))

module _ {S T : Type 0} (source : S → T → ℕ) (Proper : S → List T → Type 0) where
  -- A put side gives its pass back, after those of the lists
  gives_back_after : (pass : ℕ) (v₀ : View S T) (lists : List (List T)) (other : ℕ) (s : Putting S T) → IsAtWork v₀ → s.source ≡ length lists
      → Merges (Ruled source Proper) pass (with_all_back v₀ lists) other (Put s) (with_back (with_all_back v₀ lists) (Put s)) Gone
  gives_back_after pass (Take t) lists other s at_work next = gives_back source Proper pass _ other s (next ∙ ap (λ l. length (l ++ lists)) (sym at_work))
  gives_back_after pass v lists other s at_work next = absurd at_work

  pub gives_back_to : (pass : ℕ) (v₀ v : View S T) (lists : List (List T)) (other : ℕ) (w : View S T) (s : Putting S T)
      → IsAtWork v₀ → v ≡ with_all_back v₀ lists → w ≡ Put s → s.source ≡ length lists → Merges (Ruled source Proper) pass v other w (with_back v w) Gone
  gives_back_to pass v₀ v lists other w s at_work e f next =
      subst (λ (y : View S T × View S T). Merges (Ruled source Proper) pass y.0 other y.1 (with_back y.0 y.1) Gone) (λ i. (sym e i, sym f i)) (gives_back_after pass v₀ lists other s at_work next)

  -- What is left, once every put side came back
  pub learns_left : (pass : ℕ) (v : View S T) → HasAllBack v → Learns (Ruled source Proper) pass v (TellsTake source Proper v)
  learns_left pass (Take t) h = learns_take source Proper pass t
  learns_left pass v h = absurd h

  pops_whole : (pass : ℕ) (v : View S T) → HasAllBack v → Pops (Ruled source Proper) pass v (λ x w. (w ≡ with_taken v x) × ((rest : List T) × TellsTake source Proper v (x ∷ rest)))
  pops_whole pass (Take t) h = pops source Proper pass t
  pops_whole pass v h = absurd h

  left_known : (v : View S T) (items : List T) → HasAllBack v → TellsTake source Proper v items → left_of v ≡ length items
  left_known (Take t) items h told =
      let whole = total (source t.purpose) t.back (t.took ++ items) (subst (λ n. All (λ x. source t.purpose x < n) (t.took ++ items)) (sym h) told.made) told.back in
      omega (arith, whole, length-append t.took items)
  left_known v items h told = absurd h

  pub fits_left : (v : View S T) (n capacity : ℕ) → HasAllBack v → n ≤ capacity → Held n (TellsTake source Proper v) → left_of v ≤ capacity
  fits_left v n capacity h within held = omega (arith, left_known v held.0 h held.2, held.1, within)

  -- the same after some of it was taken
  module _ (v₀ v : View S T) (xs : List T) (whole : HasAllBack v₀) (knows : v ≡ with_all_taken v₀ xs) where
    whole_now : HasAllBack v
    whole_now = subst HasAllBack (sym knows) (HasAllBack-taken v₀ xs whole)

    pub pops_left : (pass : ℕ) → Pops (Ruled source Proper) pass v (λ x w. (w ≡ with_taken v x) × ((rest : List T) × TellsTake source Proper v (x ∷ rest)))
    pops_left pass = pops_whole pass v whole_now

    pub learns_left_now : (pass : ℕ) → Learns (Ruled source Proper) pass v (TellsTake source Proper v)
    learns_left_now pass = learns_left pass v whole_now

    one_left : (x : T) (rest : List T) → TellsTake source Proper v (x ∷ rest) → left_of v ≡ length rest + 1
    one_left x rest told = left_known v (x ∷ rest) whole_now told ∙ omega arith

    pub room_left : (x : T) (rest : List T) → TellsTake source Proper v (x ∷ rest) → length xs < left_of v₀
    room_left x rest told = omega (arith, one_left x rest told, left_of-taken v₀ xs, ap left_of knows)

    pub falls : (x : T) (rest : List T) (w : View S T) → TellsTake source Proper v (x ∷ rest) → w ≡ with_taken v x → left_of w < left_of v
    falls x rest w told e = omega (arith, one_left x rest told, left_of-next v x, ap left_of e)

  -- what a view tells of what is left, where all that was left is taken
  told_all : (v : View S T) (xs items : List T) → items ≡ [] → TellsTake source Proper (with_all_taken v xs) items → TellsTake source Proper v xs
  told_all (Take t) xs items none told = let whole : (t.took ++ xs) ++ items ≡ t.took ++ xs = ap (λ l. (t.took ++ xs) ++ l) none ∙ append-nil (t.took ++ xs) in record {
    made = subst (All (λ x. source t.purpose x < t.count)) whole told.made;
    proper = λ p. subst (λ l. Proper t.purpose (of_source source Proper t.purpose p l)) whole (told.proper p);
    back = λ p h. ap (of_source source Proper t.purpose p) (sym whole) ∙ told.back p h;
  }
  told_all v xs items none told = tt

  none_held : (items : List T) → length items ≡ 0 → items ≡ []
  none_held [] e = refl
  none_held (x ∷ xs) e = absurd (omega arith)

  pub is_left : (v₀ v : View S T) (xs : List T) → v ≡ with_all_taken v₀ xs → Held 0 (TellsTake source Proper v) → TellsTake source Proper v₀ xs
  is_left v₀ v xs knows held = told_all v₀ xs held.0 (none_held held.0 held.1) (subst (λ u. TellsTake source Proper u held.0) knows held.2)
