-- What a reorder buffer's fields stand for.
use Rattle.std.specs.Prelude.{◌≡◌, ℕ, ◌+◌, ◌-◌, ◌≤◌, Bool, ◌&&◌, List, [], ◌∷◌, length, is_some, is_none, vec_len, vec_capacity}
use Rattle.std.specs.List.{AllByRecursion, prefix_len}
use Rattle.std.specs.Option.{option_map}
use Rattle.ddr_timing.specs.declared.units.TheConstants.{CLOCK_STOP}
use Rattle.ddr_address_map.specs.declared.request.Echo.{Echo}
use Rattle.ddr_reorder.specs.declared.slot.Slot.{Slot}
use Rattle.ddr_reorder.specs.declared.reorder.Reorder.TheInside.{Inside}
use Rattle.ddr_reorder.specs.State.{Outstanding, ReorderState, IsWithinLine, is_same_echo}

-- the slot's line has come back
abbrev pub has_line : Slot → Bool
has_line slot = is_some slot.returned

-- the line for this echo has yet to come back
abbrev pub waits_for : Echo → Slot → Bool
waits_for echo slot = is_same_echo slot.echo echo && is_none slot.returned

-- what the slot is asked for lies in one line
abbrev pub IsWithin : Slot → Type 0
IsWithin slot = IsWithinLine slot.echo

-- a slot, under its number
abbrev pub outstanding_of : ℕ → Slot → Outstanding
outstanding_of number slot = record {
  number = number;
  echo = slot.echo;
  line = option_map (λ r. r.line.value) slot.returned;
  service = option_map (λ r. r.service) slot.returned;
}

-- the slots under the numbers from this one on
abbrev pub numbered : ℕ → List Slot → List Outstanding
numbered first [] = []
numbered first (slot ∷ slots) = outstanding_of first slot ∷ numbered (first + 1) slots

abbrev pub state_of : Inside → ReorderState
state_of a = record {
  window = a.slots.capacity;
  next = a.next;
  outstanding = numbered (a.next - length a.slots.items) a.slots.items;
}

pub record IsWhole (a : Inside) : Type 0 where
  pub begun : length a.slots.items ≤ a.next
  pub spent : a.next ≤ CLOCK_STOP
  pub within_line : AllByRecursion IsWithin a.slots.items
  pub ready : a.ready ≡ prefix_len has_line a.slots.items
  -- a number that is outstanding has its box in its slot or outside, and each that may still be issued has a spare one
  pub boxes : vec_len a.spares + length a.slots.items ≡ a.slots.capacity
  pub room : a.slots.capacity ≤ vec_capacity a.spares
