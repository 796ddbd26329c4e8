-- Which pending request has to wait for an older one, and for how many.
use Rattle.std.specs.Prelude.{ℕ, Bool, false, ◌&&◌, ◌==◌, List, count_by, take, slice_get}
use Rattle.std.specs.List.{list_any}
use Rattle.std.specs.Option.{option_map_or}
use Rattle.ddr_address_map.specs.declared.place.Place.{Place}
use Rattle.ddr_hazards.specs.declared.waiting.Waiting.{Waiting}

-- two places in one line of a channel: they are the same but for the channel and the offset
abbrev pub is_same_line : Place → Place → Bool
is_same_line a b = a.rank == b.rank && (a.group == b.group && (a.bank == b.bank && (a.row == b.row && a.line == b.line)))

-- an older pending request has the line of the request at this place
abbrev pub is_blocked : List Waiting → ℕ → Bool
is_blocked waiting place =
    option_map_or (λ w. list_any (λ older. is_same_line older.request.place w.request.place) (take place waiting))
    (slice_get waiting place) false

-- how many older pending requests have the line of the request at this place
abbrev pub hazard_count : List Waiting → ℕ → ℕ
hazard_count waiting place =
    option_map_or (λ w. count_by (λ older. is_same_line older.request.place w.request.place) (take place waiting))
    (slice_get waiting place) 0
