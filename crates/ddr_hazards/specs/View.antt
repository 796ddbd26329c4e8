-- What the fields of the pending requests stand for.
use Rattle.std.specs.Prelude.{◌≡◌, ℕ, ◌<◌, ◌≤◌, length, slice_get, slice_index, Some, All}
use Rattle.std.specs.List.{filter}
use Rattle.ddr_address_map.specs.declared.request.Kind.{Kind}
use Rattle.ddr_hazards.specs.declared.banks.TheConstants.{BANKS}
use Rattle.ddr_hazards.specs.declared.pending.TheConstants.{KIND_CAPACITY}
use Rattle.ddr_hazards.specs.declared.pending.Pending.TheInside.{Inside}
use Rattle.ddr_hazards.specs.declared.slots.TheConstants.{CAPACITY}
use Rattle.ddr_hazards.specs.Banks.{bank_slots}
use Rattle.ddr_hazards.specs.Counts.{count_of}
use Rattle.ddr_hazards.specs.Hazards.{hazard_count}
use Rattle.ddr_hazards.specs.PendingList.{PendingList, pending_count, IsInRank}
use Rattle.ddr_hazards.specs.Slots.{at, in_slots, is_bank, taken, IsOrdered}

abbrev pub pending_list : Inside → PendingList
pending_list a = record {
  waiting = in_slots a.slots;
  read_limit = a.limits.reads;
  write_limit = a.limits.writes;
}

pub record IsSound (a : Inside) : Type 0 where
  pub ordered : IsOrdered a.slots
  pub banks : length a.banks.lists ≡ BANKS
  -- each bank has the slots of its requests, in the order of all
  pub listed : (bank : ℕ) → bank < BANKS → bank_slots a.banks.lists bank ≡ filter (is_bank (at a.slots) bank) (taken a.slots)
  pub lengths : length a.hazards ≡ CAPACITY
  -- each slot has the count of its request
  pub hazards : (place slot : ℕ) → slice_get (taken a.slots) place ≡ Some slot → slice_index a.hazards slot ≡ hazard_count (in_slots a.slots) place
  pub counted : (kind : Kind) → count_of a.counts kind ≡ pending_count kind (in_slots a.slots)
  pub fits : (kind : Kind) → count_of a.counts kind ≤ count_of a.limits kind
  pub limited : (kind : Kind) → count_of a.limits kind ≤ KIND_CAPACITY
  pub in_rank : All (λ w. IsInRank w.request.place) (in_slots a.slots)
