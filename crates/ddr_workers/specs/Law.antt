-- The rule of a queue with several put sides and one take side: what was taken of each put side, and then
-- what the queue holds of it, is what that side put. S is what a queue was opened for, T what goes through it.
use Rattle.std.specs.Prelude.{◌≡◌, ℕ, ◌+◌, ◌<◌, ◌≤◌, ◌==◌, ◌⊎◌, List, [], ◌∷◌, ◌++◌, length, filter, All, slice_index_or, None, Some}
use Rattle.std.specs.Prelude.{Option as RustOption}
use mathlib.Core.Option.{Option, none, some}
use lib.ListN.{get_elem?}
use Rattle.ddr_workers.specs.declared.law.Putting.{Putting}
use Rattle.ddr_workers.specs.declared.law.Taking.{Taking}
use Rattle.ddr_workers.specs.declared.law.View.{View}
use Rattle.ddr_workers.specs.declared.law.View.TheVariants.{Unset, Put, Take, Gone}

module _ {S T : Type 0} where
  -- the view of a new put side, and of a new take side
  abbrev pub new_putting : S → ℕ → ℕ → Putting S T
  new_putting purpose sides from = record { purpose = purpose; sides = sides; source = from; put = []; full = 0 }

  abbrev pub new_taking : S → ℕ → Taking S T
  new_taking purpose sides = record { purpose = purpose; sides = sides; count = 0; took = []; back = []; empty = 0 }

  -- the first view of a queue, once it is told what it is for, and for how many put sides
  abbrev pub first_view : RustOption S → ℕ → View S T
  first_view None sides = Gone
  first_view (Some purpose) sides = Take (new_taking purpose sides)

  -- what each kind of step makes of a view: a push, a push that finds full, a pop, a pop that finds none
  abbrev pub with_put : View S T → T → View S T
  with_put (Put s) x = Put (record s { put = s.put ++ x ∷ [] })
  with_put v x = v

  abbrev pub with_full : View S T → View S T
  with_full (Put s) = Put (record s { full = s.full + 1 })
  with_full v = v

  abbrev pub with_taken : View S T → T → View S T
  with_taken (Take t) x = Take (record t { took = t.took ++ x ∷ [] })
  with_taken v x = v

  abbrev pub with_empty : View S T → View S T
  with_empty (Take t) = Take (record t { empty = t.empty + 1 })
  with_empty v = v

  -- the take side makes a put side: its own view, and that of the new side
  abbrev pub with_another : View S T → View S T
  with_another (Take t) = Take (record t { count = t.count + 1 })
  with_another v = v

  abbrev pub another : View S T → View S T
  another (Take t) = Put (new_putting t.purpose t.sides t.count)
  another v = Gone

  -- a put side gives its pass back to the take side
  abbrev pub with_back : View S T → View S T → View S T
  with_back (Take t) (Put s) = Take (record t { back = t.back ++ s.put ∷ [] })
  with_back v w = v

  -- after several put sides gave their passes back, and after several items were popped
  abbrev pub with_all_back : View S T → List (List T) → View S T
  with_all_back (Take t) lists = Take (record t { back = t.back ++ lists })
  with_all_back v lists = v

  abbrev pub with_all_taken : View S T → List T → View S T
  with_all_taken (Take t) xs = Take (record t { took = t.took ++ xs })
  with_all_taken v xs = v

  -- a take side to which no put side has come back, and one to which each has
  abbrev pub IsAtWork : View S T → Type 0
  IsAtWork (Take t) = t.back ≡ []
  IsAtWork v = ⊥

  abbrev pub HasAllBack : View S T → Type 0
  HasAllBack (Take t) = length t.back ≡ t.count
  HasAllBack v = ⊥

-- What all sides together know
pub record Shared (S T : Type 0) : Type 0 where
  pub purpose : S
  -- how many put sides the queue has
  pub sides : ℕ
  -- the number of the take side's pass, and of each put side's, where it is made and has not come back
  pub taker : ℕ
  pub putter : ℕ → Option ℕ
  -- what was taken, and what each put side put: nothing, where it is not made
  pub took : List T
  pub put : ℕ → List T

-- The view of a put side's pass, of this number, is part of what all know
pub record IsPutter {S T : Type 0} (all : Shared S T) (pass : ℕ) (s : Putting S T) : Type 0 where
  pub purpose : s.purpose ≡ all.purpose
  pub sides : s.sides ≡ all.sides
  pub seat : all.putter s.source ≡ some pass
  pub put : s.put ≡ all.put s.source

-- The view of the take side's pass is
pub record IsTaker {S T : Type 0} (all : Shared S T) (pass : ℕ) (t : Taking S T) : Type 0 where
  pub purpose : t.purpose ≡ all.purpose
  pub sides : t.sides ≡ all.sides
  pub seat : pass ≡ all.taker
  pub took : t.took ≡ all.took
  -- the sides that are not made put nothing
  pub not_made : (p : ℕ) → t.count ≤ p → (all.putter p ≡ none) × (all.put p ≡ [])
  -- those that came back put what it keeps
  pub back : (p : ℕ) → p < length t.back → (all.putter p ≡ none) × (slice_index_or t.back p [] ≡ all.put p)
  pub back_made : length t.back ≤ t.count

abbrev pub Fits : {S T : Type 0} → Shared S T → ℕ → View S T → Type 0
Fits all pass Unset = ⊥
Fits all pass (Put s) = IsPutter all pass s
Fits all pass (Take t) = IsTaker all pass t
Fits all pass Gone = Unit {0}

-- `source` tells from which put side an item is, and `Proper` is what each side keeps of its list
module _ {S T : Type 0} (source : S → T → ℕ) (Proper : S → List T → Type 0) where
  -- the items of one put side, in order
  abbrev pub of_source : S → ℕ → List T → List T
  of_source purpose p xs = filter (λ x. source purpose x == p) xs

  -- once a queue is told what it is for
  pub record Kept (items : List T) (views : List (View S T)) : Type 0 where
    pub all : Shared S T
    pub order : (p : ℕ) → of_source all.purpose p (all.took ++ items) ≡ all.put p
    pub proper : (p : ℕ) → Proper all.purpose (all.put p)
    -- no other side is made, and none has put anything
    pub none_else : (p : ℕ) → all.sides ≤ p → (all.putter p ≡ none) × (all.put p ≡ [])
    pub fits : (pass : ℕ) (v : View S T) → get_elem? views pass ≡ some v → Fits all pass v

  -- The rule
  abbrev pub Ruled : List T → List (View S T) → Type 0
  Ruled items views = ((items ≡ []) × (views ≡ Unset ∷ [])) ⊎ Kept items views

  -- What the rule tells a put side of the items that the queue holds: with what was taken before, they are of the
  -- queue's sides, and have its own list, and proper lists of the others
  pub record Before (s : Putting S T) (items : List T) : Type 0 where
    pub took : List T
    pub made : All (λ x. source s.purpose x < s.sides) (took ++ items)
    pub own : of_source s.purpose s.source (took ++ items) ≡ s.put
    pub proper : (p : ℕ) → Proper s.purpose (of_source s.purpose p (took ++ items))

  -- What it tells the take side: with what was taken, they are of the sides that were made, whose lists are
  -- proper, and of those that came back they are all that was put
  pub record Behind (t : Taking S T) (items : List T) : Type 0 where
    pub made : All (λ x. source t.purpose x < t.count) (t.took ++ items)
    pub proper : (p : ℕ) → Proper t.purpose (of_source t.purpose p (t.took ++ items))
    pub back : (p : ℕ) → p < length t.back → of_source t.purpose p (t.took ++ items) ≡ slice_index_or t.back p []

  -- what a side learns at a push that finds full, and at a pop
  abbrev pub TellsPut : View S T → List T → Type 0
  TellsPut (Put s) items = Before s items
  TellsPut v items = Unit {0}

  abbrev pub TellsTake : View S T → List T → Type 0
  TellsTake (Take t) items = Behind t items
  TellsTake v items = Unit {0}
