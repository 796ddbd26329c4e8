-- The slots that hold the pending requests, which no caller sees.
use Rattle.std.specs.Prelude.{◌≡◌, ℕ, ◌-◌, ◌<◌, ◌≤◌, ◌==◌, Bool, false, cond, nat_lt, List, [], ◌∷◌, length, map, take, slice_get, slice_index, slice_set, Option, Some}
use Rattle.std.specs.List.{filter_map}
use Rattle.std.specs.Option.{option_flatten, option_map_or}
use Rattle.ddr_address_map.specs.declared.place.Place.{Place}
use Rattle.ddr_hazards.specs.declared.slots.Slots.{Slots}
use Rattle.ddr_hazards.specs.declared.slots.TheConstants.{CAPACITY}
use Rattle.ddr_hazards.specs.declared.waiting.Waiting.{Waiting}
use Rattle.ddr_hazards.specs.Banks.{bank_number}
use Rattle.ddr_hazards.specs.Hazards.{is_same_line}

-- what a slot holds
abbrev pub at : Slots → ℕ → Option Waiting
at s slot = option_flatten (slice_get s.cells.items slot)

-- the slots of the requests, the oldest first
abbrev pub taken : Slots → List ℕ
taken s = take s.len s.order

-- the requests that the slots hold, the oldest first
abbrev pub in_slots : Slots → List Waiting
in_slots s = filter_map (at s) (taken s)

-- a place after the removal of a lower one
abbrev pub lowered : ℕ → ℕ → ℕ
lowered place p = cond (nat_lt place p) (p - 1) p

-- the slot holds a request to the line of the place
abbrev pub is_line : (ℕ → Option Waiting) → Place → ℕ → Bool
is_line holds place slot = option_map_or (λ w. is_same_line w.request.place place) (holds slot) false

-- the slot holds a request to the bank
abbrev pub is_bank : (ℕ → Option Waiting) → ℕ → ℕ → Bool
is_bank holds bank slot = option_map_or (λ w. bank_number w.request.place == bank) (holds slot) false

-- each of the slots that passes counts one older request less
abbrev pub count_less : (ℕ → Bool) → List ℕ → List ℕ → List ℕ
count_less test [] hazards = hazards
count_less test (t ∷ ts) hazards = count_less test ts (cond (test t) (slice_set hazards t (slice_index hazards t - 1)) hazards)

pub record IsOrdered (s : Slots) : Type 0 where
  pub cells : length s.cells.items ≡ CAPACITY
  pub order : length s.order ≡ CAPACITY
  pub places : length s.places ≡ CAPACITY
  pub len : s.len ≤ CAPACITY
  -- the order names each slot once, and each slot knows where
  pub slot : (i : ℕ) → i < CAPACITY → slice_index s.order i < CAPACITY
  pub place : (i : ℕ) → i < CAPACITY → slice_index s.places (slice_index s.order i) ≡ i
  -- each taken slot holds a request
  pub full : map (at s) (taken s) ≡ map Some (in_slots s)
