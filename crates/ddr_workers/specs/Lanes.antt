-- The sides of several queues, handed out to those who hold one side of each.
use Rattle.std.specs.Prelude.{◌≡◌, ℕ, ◌+◌, List, [], ◌∷◌, ◌++◌, length, map, Some, slice_get}
use Rattle.std.specs.Global.{Vec}
use Rattle.ddr_workers.specs.Open.{IsNewQueue}
use Rattle.ddr_workers.specs.Sides.{PutSide, TakeSide, new_put}

-- the rows, without where they lie in memory
abbrev pub lists : {X : Type 0} → List (Vec X) → List (List X)
lists rows = map (λ row. row.items) rows

-- each row with one element more
abbrev pub each_with : {X : Type 0} → List (List X) → List X → List (List X)
each_with [] xs = []
each_with (row ∷ rows) [] = row ∷ rows
each_with (row ∷ rows) (x ∷ xs) = (row ++ x ∷ []) ∷ each_with rows xs

-- Of so many queues the take side, and for each holder of put sides its side of each queue
pub record AreLanes {S T : Type 0} (aim : ℕ → S) (most holders queues : ℕ) (rows : List (List (PutSide S T))) (takes : List (TakeSide S T)) : Type 0 where
  pub rows_are : length rows ≡ holders
  pub takes_are : length takes ≡ queues
  pub row : (k : ℕ) (row : List (PutSide S T)) → slice_get rows k ≡ Some row → length row ≡ queues
  pub new : (q : ℕ) (take : TakeSide S T) → slice_get takes q ≡ Some take → IsNewQueue (aim q) most holders take
  pub put : (k q : ℕ) (row : List (PutSide S T)) (side : PutSide S T) (take : TakeSide S T) → slice_get rows k ≡ Some row → slice_get row q ≡ Some side → slice_get takes q ≡ Some take
      → side ≡ new_put take.who.queue k

-- Each row, with the element beside it, has made one of the things, by its number
abbrev pub AreEach : {X Y Z : Type 0} → (ℕ → List X → Y → Z → Type 0) → ℕ → List (List X) → List Y → List Z → Type 0
AreEach P n [] [] [] = Unit {0}
AreEach P n (row ∷ rows) (y ∷ ys) (z ∷ zs) = P n row y z × AreEach P (n + 1) rows ys zs
AreEach P n rows ys zs = ⊥

-- Each of a list keeps what is asked of its number
abbrev pub AreFrom : {X : Type 0} → (ℕ → X → Type 0) → ℕ → List X → Type 0
AreFrom P n [] = Unit {0}
AreFrom P n (x ∷ xs) = P n x × AreFrom P (n + 1) xs
