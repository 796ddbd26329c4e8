-- The steps of a queue at the views of its sides, which contracts see as records, and what they tell.
use Rattle.std.proofs.Common.{◌≡◌, ℕ, ◌<◌, List, [], ◌∷◌, ◌++◌, length, map, get_or, All, slice_get, Some, sym, refl, ap, ◌∙◌, subst, arith}
use Rattle.std.specs.Prelude.{Option}
use Rattle.std.specs.Option.{option_map}
use Rattle.std.proofs.lemmas.List.{append-nil, length-map}
use Rattle.std.proofs.lemmas.Option.{slice_get_within, slice_get-map, get_or_from_slice_get}
use Rattle.atomic_table.specs.Seated.{TableId}
use Rattle.crossbeam_queue.specs.Fifo.{Pushes, Forks, Held}
use Rattle.ddr_workers.specs.declared.law.View.{View}
use Rattle.ddr_workers.specs.declared.law.View.TheVariants.{Unset, Put, Take, Gone}
use Rattle.ddr_workers.specs.Law.{of_source, Ruled, TellsPut, TellsTake, new_putting, new_taking, first_view, with_put, with_all_back}
use Rattle.ddr_workers.specs.Sides.{PutSide, TakeSide, WasFull, WasEmpty, IsNext, AreSides, AreOpened, IsLeft, queue_id, put_side, take_side, new_put, new_take, put_view, take_view}
use Rattle.ddr_workers.proofs.LawLemmas.{sets, pushes}

module _ {S T : Type 0} where
  -- The new put side
  pub new_put_at : (table : TableId) (capacity sides n p : ℕ) (purpose : S) (v : View S T) (t : TableId) (cap from : ℕ) (r : S)
      → v ≡ Put (new_putting purpose sides n) → t ≡ table → cap ≡ capacity → r ≡ purpose → from ≡ p → put_side t cap r from v ≡ new_put (queue_id table capacity sides purpose) p
  new_put_at table capacity sides n p purpose v t cap from r made a b d e = ap (put_side t cap r from) made ∙ (λ i. new_put (queue_id (a i) (b i) sides (d i)) (e i))

  -- The sides of a new queue
  pub are_opened : (table : TableId) (capacity count cap n : ℕ) (purpose r : S) (v : View S T) (puts : List (PutSide S T))
      → v ≡ Take (record (new_taking r count) { count = n }) → cap ≡ capacity → r ≡ purpose → n ≡ count → length puts ≡ n
      → ((p : ℕ) (s : PutSide S T) → slice_get puts p ≡ Some s → s ≡ new_put (queue_id table capacity count r) p) → AreOpened purpose capacity count puts (take_side table cap r v)
  are_opened table capacity count cap n purpose r v puts knows a b e made sides =
      let take : take_side table cap r v ≡ new_take (queue_id table capacity count purpose) count = ap (take_side table cap r) knows ∙ (λ i. new_take (queue_id table (a i) count (b i)) (e i)) in
      let new : (p : ℕ) (s : PutSide S T) → slice_get puts p ≡ Some s → s ≡ new_put (queue_id table capacity count purpose) p = λ p s h. sides p s h ∙ ap (λ (y : S). new_put (queue_id table capacity count y) p) b in
      subst (AreOpened purpose capacity count puts) (sym take) (record {
        sides = record { count = made ∙ e; same = λ p s h. ap (λ (u : PutSide S T). u.who) (new p s h) };
        count = refl;
        queue_sides = refl;
        capacity = refl;
        purpose = refl;
        put = λ p s h. (ap (λ (u : PutSide S T). u.put) (new p s h), ap (λ (u : PutSide S T). u.full) (new p s h));
        took = (refl, refl);
      })

  -- the list of a side that came back
  back_at : (puts : List (PutSide S T)) (p : ℕ) (s : PutSide S T) → slice_get puts p ≡ Some s → get_or (map (λ (u : PutSide S T). u.put) puts) p [] ≡ s.put
  back_at puts p s e =
      get_or_from_slice_get (map (λ (u : PutSide S T). u.put) puts) p s.put [] (slice_get-map (λ (u : PutSide S T). u.put) puts p ∙ ap (option_map (λ (u : PutSide S T). u.put)) e)

none_held : {T : Type 0} (items : List T) → length items ≡ 0 → items ≡ []
none_held [] e = refl
none_held (x ∷ xs) e = absurd (omega arith)

module _ {S T : Type 0} (source : S → T → ℕ) (Proper : S → List T → Type 0) where
  abbrev Law : List T → List (View S T) → Type 0
  Law = Ruled source Proper

  -- The queue is told its purpose
  pub sets_at : (pass : ℕ) (v : View S T) (purpose : S) (sides : ℕ) (picked : Option S) (picked_sides : ℕ)
      → Proper purpose [] → v ≡ Unset → picked ≡ Some purpose → picked_sides ≡ sides → Forks Law pass v (first_view picked picked_sides) Gone
  sets_at pass v purpose sides picked picked_sides nothing fresh is are =
      subst (λ (y : View S T × Option S × ℕ). Forks Law pass y.0 (first_view y.1 y.2) Gone) (λ i. (sym fresh i, sym is i, sym are i)) (sets source Proper purpose sides nothing pass)

  -- A push, at the view v of this side, which contracts see as s
  pub pushes_at : (n pass : ℕ) (v : View S T) (side s : PutSide S T) (x : T) → v ≡ put_view side → side ≡ s
      → source s.who.queue.purpose x ≡ s.who.source → (Proper s.who.queue.purpose s.put → Proper s.who.queue.purpose (s.put ++ x ∷ [])) → Pushes Law n pass v x (λ w. w ≡ with_put v x)
  pushes_at n pass v side s x knows is own proper =
      subst (λ u. Pushes Law n pass u x (λ w. w ≡ with_put u x)) (ap put_view (sym is) ∙ sym knows) (pushes source Proper n pass _ x own proper)

  -- What a push that finds the queue full tells
  was_full : (s : PutSide S T) → Held s.who.queue.capacity (TellsPut source Proper (put_view s)) → WasFull source Proper s
  was_full s held = record { took = held.2.took; items = held.0; full = held.1; made = held.2.made; own = held.2.own; proper = held.2.proper }

  pub was_full_at : (capacity : ℕ) (v : View S T) (side s : PutSide S T) → v ≡ put_view side → side ≡ s → capacity ≡ side.who.queue.capacity → Held capacity (TellsPut source Proper v) → WasFull source Proper s
  was_full_at capacity v side s knows is same held =
      subst (WasFull source Proper) is (was_full side (subst (λ (y : ℕ × View S T). Held y.0 (TellsPut source Proper y.1)) (λ i. (same i, knows i)) held))

  -- What a pop that finds the queue empty tells
  was_empty : (t : TakeSide S T) → Held 0 (TellsTake source Proper (take_view t)) → WasEmpty source Proper t
  was_empty t held =
      let alone : t.took ++ held.0 ≡ t.took = ap (λ l. t.took ++ l) (none_held held.0 held.1) ∙ append-nil t.took in
      record {
        made = subst (All (λ x. source t.who.queue.purpose x < t.who.count)) alone held.2.made;
        proper = λ p. subst (λ l. Proper t.who.queue.purpose (of_source source Proper t.who.queue.purpose p l)) alone (held.2.proper p);
      }

  pub was_empty_at : (v : View S T) (side t : TakeSide S T) → v ≡ take_view side → side ≡ t → Held 0 (TellsTake source Proper v) → WasEmpty source Proper t
  was_empty_at v side t knows is held = subst (WasEmpty source Proper) is (was_empty side (subst (λ u. Held 0 (TellsTake source Proper u)) knows held))

  -- What a pop tells of its item
  is_next : (t : TakeSide S T) (x : T) (rest : List T) → TellsTake source Proper (take_view t) (x ∷ rest) → IsNext source Proper t x
  is_next t x rest told = (rest, record { made = told.made; proper = told.proper })

  pub is_next_at : (v : View S T) (side t : TakeSide S T) (x : T) → v ≡ take_view side → side ≡ t → (rest : List T) × TellsTake source Proper v (x ∷ rest) → IsNext source Proper t x
  is_next_at v side t x knows is told = subst (λ u. IsNext source Proper u x) is (is_next side x told.0 (subst (λ u. TellsTake source Proper u (x ∷ told.0)) knows told.1))

  -- What the queue held at its end
  is_left : (puts : List (PutSide S T)) (take : TakeSide S T) (left : List T) → AreSides puts take
      → TellsTake source Proper (with_all_back (take_view take) (map (λ (s : PutSide S T). s.put) puts)) left → IsLeft source Proper puts take left
  is_left puts take left sides told =
      record {
        order = λ p s e. told.back p (omega (arith, slice_get_within puts p s e, length-map puts (λ (u : PutSide S T). u.put))) ∙ back_at puts p s e;
        proper = record { made = told.made; proper = told.proper };
      }

  pub is_left_at : (puts : List (PutSide S T)) (take : TakeSide S T) (left : List T) (v w : View S T) (side : TakeSide S T) → AreSides puts take → side ≡ take → v ≡ take_view side
      → w ≡ with_all_back v (map (λ (s : PutSide S T). s.put) puts) → TellsTake source Proper w left → IsLeft source Proper puts take left
  is_left_at puts take left v w side sides is knows back told =
      is_left puts take left sides
      (subst (λ u. TellsTake source Proper u left) (back ∙ ap (λ u. with_all_back u (map (λ (s : PutSide S T). s.put) puts)) (knows ∙ ap take_view is)) told)
