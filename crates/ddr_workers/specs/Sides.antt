-- What contracts see of the two kinds of side of a queue, and what a call makes of it. S is what a queue was
-- opened for, T what goes through it.
use Rattle.std.specs.Prelude.{◌≡◌, ℕ, ◌+◌, ◌<◌, List, [], ◌∷◌, ◌++◌, length, All, slice_get, slice_set, Some}
use Rattle.std.specs.Option.{option_map_or}
use Rattle.atomic_table.specs.Seated.{TableId}
use Rattle.ddr_workers.specs.declared.law.View.{View}
use Rattle.ddr_workers.specs.declared.law.View.TheVariants.{Put, Take}
use Rattle.ddr_workers.specs.Law.{of_source}

-- Which queue it is: what no other queue shares with it, how many items it holds at most, how many put sides it has,
-- and what it was opened for
pub record QueueId (S : Type 0) : Type 0 where
  pub table : TableId
  pub capacity : ℕ
  pub sides : ℕ
  pub purpose : S

-- Whose put side it is: which of the queue's, counted from 0
pub record PutId (S : Type 0) : Type 0 where
  pub queue : QueueId S
  pub source : ℕ

-- Whose take side it is, and how many put sides it has made
pub record TakeId (S : Type 0) : Type 0 where
  pub queue : QueueId S
  pub count : ℕ

-- A put side: what it has pushed, in order, and how many of its pushes found the queue full
pub record PutSide (S T : Type 0) : Type 0 where
  pub who : PutId S
  pub put : List T
  pub full : ℕ

-- The take side: what it has popped, in order, and how many of its pops found the queue empty
pub record TakeSide (S T : Type 0) : Type 0 where
  pub who : TakeId S
  pub took : List T
  pub empty : ℕ

module _ {S T : Type 0} where
  -- after a push, and after one that found the queue full
  abbrev pub after_push : PutSide S T → T → PutSide S T
  after_push s x = record s { put = s.put ++ x ∷ [] }

  abbrev pub after_full : PutSide S T → PutSide S T
  after_full s = record s { full = s.full + 1 }

  -- after a pop, and after one that found the queue empty
  abbrev pub after_pop : TakeSide S T → T → TakeSide S T
  after_pop t x = record t { took = t.took ++ x ∷ [] }

  abbrev pub after_empty : TakeSide S T → TakeSide S T
  after_empty t = record t { empty = t.empty + 1 }

-- the put side of this number, beside this take side
abbrev pub put_id : {S : Type 0} → TakeId S → ℕ → PutId S
put_id take p = record { queue = take.queue; source = p }

-- All sides of one queue, the put sides in order
pub record AreSides {S T : Type 0} (puts : List (PutSide S T)) (take : TakeSide S T) : Type 0 where
  pub count : length puts ≡ take.who.count
  pub same : (p : ℕ) (s : PutSide S T) → slice_get puts p ≡ Some s → s.who ≡ put_id take.who p

-- The sides of a new queue, which has so many put sides and holds at most so many items
pub record AreOpened {S T : Type 0} (aim : S) (most sides_made : ℕ) (puts : List (PutSide S T)) (take : TakeSide S T) : Type 0 where
  pub sides : AreSides puts take
  pub count : take.who.count ≡ sides_made
  pub queue_sides : take.who.queue.sides ≡ sides_made
  pub capacity : take.who.queue.capacity ≡ most
  pub purpose : take.who.queue.purpose ≡ aim
  pub put : (p : ℕ) (s : PutSide S T) → slice_get puts p ≡ Some s → (s.put ≡ []) × (s.full ≡ 0)
  pub took : (take.took ≡ []) × (take.empty ≡ 0)

-- `source` tells from which put side an item is, and `Proper` is what each side keeps of its list
module _ {S T : Type 0} (source : S → T → ℕ) (Proper : S → List T → Type 0) where
  -- the items of one put side, in order
  abbrev of : S → ℕ → List T → List T
  of purpose p items = of_source source Proper purpose p items

  -- There was a moment at which the queue held as many items as it can: with what was taken before, they are of the
  -- queue's put sides, and have what this side has pushed, and proper lists of the others
  pub record WasFull (s : PutSide S T) : Type 0 where
    pub took : List T
    pub items : List T
    pub full : length items ≡ s.who.queue.capacity
    pub made : All (λ x. source s.who.queue.purpose x < s.who.queue.sides) (took ++ items)
    pub own : of s.who.queue.purpose s.who.source (took ++ items) ≡ s.put
    pub proper : (p : ℕ) → Proper s.who.queue.purpose (of s.who.queue.purpose p (took ++ items))

  -- These items are of the queue's put sides, whose lists are proper
  pub record AreProper (who : TakeId S) (items : List T) : Type 0 where
    pub made : All (λ x. source who.queue.purpose x < who.count) items
    pub proper : (p : ℕ) → Proper who.queue.purpose (of who.queue.purpose p items)

  -- There was a moment at which the queue held nothing: what was taken is by itself what the sides may have put
  abbrev pub WasEmpty : TakeSide S T → Type 0
  WasEmpty t = AreProper t.who t.took

  -- What a pop gives stands, with what was taken before, in what the sides may have put
  abbrev pub IsNext : TakeSide S T → T → Type 0
  IsNext t x = (rest : List T) × AreProper t.who (t.took ++ x ∷ rest)

  -- What the queue held at its end: for each side, what was taken and then what is left is what it pushed.
  -- That is as the sides may have put it, and nothing of other sides
  pub record IsLeft (puts : List (PutSide S T)) (take : TakeSide S T) (left : List T) : Type 0 where
    pub order : (p : ℕ) (s : PutSide S T) → slice_get puts p ≡ Some s → of take.who.queue.purpose p (take.took ++ left) ≡ s.put
    pub proper : AreProper take.who (take.took ++ left)

abbrev pub queue_id : {S : Type 0} → TableId → ℕ → ℕ → S → QueueId S
queue_id table capacity sides purpose = record { table = table; capacity = capacity; sides = sides; purpose = purpose }

-- what a view says of a put side, and of the take side
module _ {S T : Type 0} where
  abbrev pub sides_of : View S T → ℕ
  sides_of (Put s) = s.sides
  sides_of (Take t) = t.sides
  sides_of v = 0

  abbrev pub put_of : View S T → List T
  put_of (Put s) = s.put
  put_of v = []

  abbrev pub full_of : View S T → ℕ
  full_of (Put s) = s.full
  full_of v = 0

  abbrev pub count_of : View S T → ℕ
  count_of (Take t) = t.count
  count_of v = 0

  abbrev pub took_of : View S T → List T
  took_of (Take t) = t.took
  took_of v = []

  abbrev pub empty_of : View S T → ℕ
  empty_of (Take t) = t.empty
  empty_of v = 0

  abbrev pub put_side : TableId → ℕ → S → ℕ → View S T → PutSide S T
  put_side table capacity purpose from v =
      record { who = record { queue = queue_id table capacity (sides_of v) purpose; source = from }; put = put_of v; full = full_of v }

  abbrev pub take_side : TableId → ℕ → S → View S T → TakeSide S T
  take_side table capacity purpose v =
      record { who = record { queue = queue_id table capacity (sides_of v) purpose; count = count_of v }; took = took_of v; empty = empty_of v }

  -- a new put side
  abbrev pub new_put : QueueId S → ℕ → PutSide S T
  new_put queue from = record { who = record { queue = queue; source = from }; put = []; full = 0 }

  -- the take side of a new queue
  abbrev pub new_take : QueueId S → ℕ → TakeSide S T
  new_take queue count = record { who = record { queue = queue; count = count }; took = []; empty = 0 }

  -- the view of a put side's pass, and of the take side's while no put side has come back
  abbrev pub put_view : PutSide S T → View S T
  put_view s = Put (record { purpose = s.who.queue.purpose; sides = s.who.queue.sides; source = s.who.source; put = s.put; full = s.full })

  abbrev pub take_view : TakeSide S T → View S T
  take_view t = Take (record { purpose = t.who.queue.purpose; sides = t.who.queue.sides; count = t.who.count; took = t.took; back = []; empty = t.empty })

-- the list with what this makes of its element at that place
abbrev pub changed_at : {X : Type 0} → ℕ → (X → X) → List X → List X
changed_at place change xs = option_map_or (λ x. slice_set xs place (change x)) (slice_get xs place) xs
