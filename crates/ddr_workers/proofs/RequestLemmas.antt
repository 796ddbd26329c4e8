-- What a port's list keeps as it grows, and what its End says of what is left.
use Rattle.std.proofs.Common.{◌≡◌, ◌≢◌, ℕ, ◌<◌, true, false, eqb, eq-eqb, List, [], ◌∷◌, ◌++◌, All, refl, ap, ◌∙◌, subst}
use Rattle.std.proofs.lemmas.List.Elements.{filter-append, All-nil, All-cons, All-append}
use Rattle.ddr_world.specs.declared.item.Item.{Item}
use Rattle.ddr_world.specs.declared.item.Item.TheVariants.{Request, End}
use Rattle.ddr_workers.specs.declared.requests.Route.{Route}
use Rattle.ddr_workers.specs.Requests.{port_of, of_port, has_end, ends_last, IsPlacedItem, IsProper, IsNext}
use Rattle.ddr_workers.specs.Sides as sides
use Rattle.ddr_workers.proofs.ItemLemmas.{All-of, of_source-next}

-- a list with no End stays proper with one item more
ends_last-push : (items : List Item) (x : Item) → has_end items ≡ false → ends_last (items ++ x ∷ []) ≡ true
ends_last-push [] (Request r) h = refl
ends_last-push [] (End p) h = refl
ends_last-push (Request r ∷ items) x h = ends_last-push items x h
ends_last-push (End p ∷ items) x h = cc

pub IsProper-push : (route : Route) (items : List Item) (x : Item) → has_end items ≡ false → IsPlacedItem route x → IsProper route items → IsProper route (items ++ x ∷ [])
IsProper-push route items x h placed before = record {
  ends = ends_last-push items x h;
  placed = All-append (IsPlacedItem route) items (x ∷ []) before.placed (All-cons (IsPlacedItem route) x [] placed (All-nil (IsPlacedItem route)));
}

pub IsProper-nil : (route : Route) → IsProper route []
IsProper-nil route = record { ends = refl; placed = All-nil (IsPlacedItem route) }

-- What a pop tells of its item
no_end_before : (xs : List Item) (x : Item) (ys : List Item) → ends_last (xs ++ x ∷ ys) ≡ true → has_end xs ≡ false
no_end_before [] x ys h = refl
no_end_before (Request r ∷ xs) x ys h = no_end_before xs x ys h
no_end_before (End p ∷ []) x ys h = cc
no_end_before (End p ∷ y ∷ xs) x ys h = cc

pub is_next : (t : sides.TakeSide Route Item) (x : Item) → sides.IsNext (λ _. port_of) IsProper t x → IsNext t x
is_next t x told =
    let p = port_of x in
    let rest = told.0 in
    let proper : IsProper t.who.queue.purpose (of_port p t.took ++ x ∷ of_port p rest) = subst (IsProper t.who.queue.purpose) (of_source-next port_of t.took x rest) (told.1.proper p) in
    record {
      port = All-of (λ y. port_of y < t.who.count) t.took x rest told.1.made;
      placed = All-of (IsPlacedItem t.who.queue.purpose) (of_port p t.took) x (of_port p rest) proper.placed;
      before_end = no_end_before (of_port p t.took) x (of_port p rest) proper.ends;
    }

-- nothing stands behind an End
none_behind : (xs ys : List Item) → ends_last (xs ++ ys) ≡ true → has_end xs ≡ true → ys ≡ []
none_behind [] ys h e = cc
none_behind (Request r ∷ xs) ys h e = none_behind xs ys h e
none_behind (End p ∷ []) [] h e = refl
none_behind (End p ∷ []) (y ∷ ys) h e = cc
none_behind (End p ∷ x ∷ xs) ys h e = cc

some_of : (x : Item) (xs : List Item) → of_port (port_of x) (x ∷ xs) ≢ []
some_of x xs = rw (eq-eqb (port_of x) (port_of x) refl) (λ e. cc)

module _ (take : sides.TakeSide Route Item) (left : List Item) (are : sides.AreProper (λ _. port_of) IsProper take.who (take.took ++ left))
    (ended : (p : ℕ) → p < take.who.count → has_end (of_port p take.took) ≡ true) where
  -- an item that is left is of a port that has not ended
  not_ended : (x : Item) (xs : List Item) → left ≡ x ∷ xs → ⊥
  not_ended x xs e =
      let p = port_of x in
      let below = All-of (λ y. port_of y < take.who.count) take.took x xs (subst (λ l. All (λ y. port_of y < take.who.count) (take.took ++ l)) e are.made) in
      let ends = subst (λ l. ends_last l ≡ true) (ap (λ l. of_port p (take.took ++ l)) e ∙ filter-append (λ y. eqb (port_of y) p) take.took (x ∷ xs)) (are.proper p).ends in
      some_of x xs (none_behind (of_port p take.took) (of_port p (x ∷ xs)) ends (ended p below))

  none_left : (xs : List Item) → left ≡ xs → left ≡ []
  none_left [] e = e
  none_left (x ∷ xs) e = absurd (not_ended x xs e)

  pub nothing_left : left ≡ []
  nothing_left = none_left left refl
