-- What a write of 64 bytes leaves of a row array.
use Rattle.std.specs.Prelude.{◌≡◌, ℕ, Bool, if◌then◌else◌, List, [], ◌∷◌, length, slice_set}
use Rattle.ddr_timing.specs.declared.units.TheConstants.{LINE_BYTES}
use Rattle.std.specs.Option.{ForSome, option_map_or}
use Rattle.ddr_row_array.specs.Merge.{merged}
use Rattle.ddr_row_array.specs.Rows.{Rows, StoredRow, is_row, open_row, cells}
use Rattle.ddr_row_array.specs.Changes.{Rewrites}

-- the first element that passes is changed
abbrev pub changed_first : {X : Type 0} → (X → Bool) → (X → X) → List X → List X
changed_first p f [] = []
changed_first p f (x ∷ xs) = if p x then f x ∷ xs else x ∷ changed_first p f xs

-- the stored rows, with `new` over the line of the row
unfoldable pub with_line : List StoredRow → ℕ → ℕ → ℕ → List ℕ → List StoredRow
with_line stored bank row line new =
    changed_first (is_row bank row) (λ s. record s { lines = slice_set s.lines line new }) stored

-- the row array, with `new` over the line of the bank's open row
abbrev pub with_burst : Rows → ℕ → ℕ → List ℕ → Rows
with_burst a bank line new =
    option_map_or (λ row. record a { stored = with_line a.stored bank row line new }) (open_row a bank) a

-- whatever 64 bytes are written over the line of the bank's open row, they and no others change
abbrev pub ChangesLineAlone : Rows → ℕ → ℕ → Type 0
ChangesLineAlone a bank line =
    ForSome (open_row a bank) (λ row. (w : List ℕ) → length w ≡ LINE_BYTES → Rewrites a (with_burst a bank line w) bank row line w)

-- the line of the bank's open row has the given bytes where the mask has a bit, and nothing else changes
abbrev pub MergesLine : Rows → Rows → ℕ → ℕ → ℕ → List ℕ → Type 0
MergesLine old new bank line mask bytes =
    ForSome (open_row old bank) (λ row. Rewrites old new bank row line (merged mask bytes (cells old bank row line)))
