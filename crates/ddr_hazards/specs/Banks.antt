-- The pending requests of one bank.
use Rattle.std.specs.Prelude.{ℕ, ◌+◌, ◌*◌, Bool, ◌&&◌, ◌==◌, List, [], map, slice_get, slice_index_or, slice_set, Option}
use Rattle.std.specs.List.{enumerate_from, filter}
use Rattle.arrayvec.specs.ArrayVec.{ArrayVec}
use Rattle.ddr_timing.specs.declared.units.TheConstants.{GROUP_BANKS, MOST_GROUPS}
use Rattle.ddr_address_map.specs.declared.place.Place.{Place}
use Rattle.ddr_hazards.specs.declared.waiting.Waiting.{Waiting}

-- the request is to this bank of this group and rank
abbrev pub is_in_bank : ℕ → ℕ → ℕ → Waiting → Bool
is_in_bank rank group bank w = w.request.place.rank == rank && (w.request.place.group == group && w.request.place.bank == bank)

-- the places of a bank's requests, the oldest first
abbrev pub bank_places : ℕ → ℕ → ℕ → List Waiting → List ℕ
bank_places rank group bank waiting = map (λ at. at.0) (filter (λ at. is_in_bank rank group bank at.1) (enumerate_from 0 waiting))

-- the place of a bank's k-th oldest request, k from 0, if there are so many
abbrev pub in_bank : ℕ → ℕ → ℕ → ℕ → List Waiting → Option ℕ
in_bank rank group bank k waiting = slice_get (bank_places rank group bank waiting) k

-- the number of a bank among those of all ranks
abbrev pub number : ℕ → ℕ → ℕ → ℕ
number rank group bank = (rank * MOST_GROUPS + group) * GROUP_BANKS + bank

abbrev pub bank_number : Place → ℕ
bank_number p = number p.rank p.group p.bank

-- the slots that are kept for a bank, which no caller sees
abbrev pub bank_slots : List (ArrayVec ℕ) → ℕ → List ℕ
bank_slots lists bank = (slice_index_or lists bank (record { items = [] })).items

abbrev pub with_slots : List (ArrayVec ℕ) → ℕ → List ℕ → List (ArrayVec ℕ)
with_slots lists bank slots = slice_set lists bank (record { items = slots })
