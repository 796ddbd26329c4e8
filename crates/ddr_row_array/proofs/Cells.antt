-- For callers: the lines and bursts of a row array, and what a masked write makes of a line.
use Rattle.std.proofs.Common.{◌≡◌, ◌==◌, if◌then◌else◌, ℕ, ◌<◌, ◌≤◌, Bool, true, false, cond, ltb, List, length, get_or, Option, Some, None, refl, ap, ◌∙◌, arith}
use Rattle.std.specs.Int.{bit_at}
use Rattle.std.specs.Option.{option_map}
use Rattle.std.proofs.lemmas.Bool.{lt-ltb, le-ltb}
use Rattle.std.proofs.lemmas.List.FromFn.{get_or-map-range_with_len, length-map-range_with_len}
use Rattle.ddr_row_array.specs.Merge.{byte_of, merged}
use Rattle.ddr_row_array.specs.Rows.{Rows, line_count, open_row, cells, open_burst}

-- a line of an open row
pub open_burst-open : (a : Rows) (bank row line : ℕ) → open_row a bank ≡ Some row → line < line_count a → open_burst a bank line ≡ Some (cells a bank row line)
open_burst-open a bank row line held within =
    let burst = λ (r : ℕ). cells a bank r line in
    ap (λ t. cond t (option_map burst (open_row a bank)) None) (lt-ltb line a.width within) ∙ ap (option_map burst) held

none_either : (t : Bool) → cond {A = Option (List ℕ)} t None None ≡ None
none_either true = refl
none_either false = refl

-- no line of an idle bank
pub open_burst-idle : (a : Rows) (bank line : ℕ) → open_row a bank ≡ None → open_burst a bank line ≡ None
open_burst-idle a bank line idle =
    ap (λ o. cond (ltb line a.width) (option_map (λ row. cells a bank row line) o) None) idle ∙ none_either (ltb line a.width)

-- no line past the last
pub open_burst-past : (a : Rows) (bank line : ℕ) → line_count a ≤ line → open_burst a bank line ≡ None
open_burst-past a bank line past =
    ap (λ t. cond t (option_map (λ row. cells a bank row line) (open_row a bank)) None) (le-ltb line a.width past)

pub length-merged : (mask : ℕ) (new old : List ℕ) → length (merged mask new old) ≡ 64
unfolding merged
length-merged mask new old = length-map-range_with_len (byte_of mask new old) 0 64

-- byte k of a masked write
pub get_or-merged : (mask : ℕ) (new old : List ℕ) (k : ℕ) → k < 64 → get_or (merged mask new old) k 0 ≡ (if bit_at mask k == 1 then get_or new k 0 else get_or old k 0)
unfolding merged
get_or-merged mask new old k within = get_or-map-range_with_len (byte_of mask new old) 0 64 k k 0 within (omega arith)
