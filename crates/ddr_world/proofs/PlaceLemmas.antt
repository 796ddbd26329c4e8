-- A place that an address has lies in the geometry.
use Rattle.std.proofs.Common.{◌≡◌, ℕ, ◌<◌, true, Some, ap, ◌∙◌, inl, inr}
use Rattle.circular_buffer.proofs.Places.{below_or_not}
use Rattle.ddr_timing.specs.declared.geometry.Geometry.{Geometry}
use Rattle.ddr_address_map.specs.declared.place.Place.{Place}
use Rattle.ddr_address_map.specs.Map.{capacity_of, with_bank_xor, in_range, place_of}
use Rattle.ddr_address_map.proofs.MapLemmas.{digits_at, place_of-below, place_of-past, place-in_range}

pub record Stands (shape : Geometry) (addr : ℕ) (q : Place) : Type 0 where
  pub low : addr < capacity_of shape
  pub is : q ≡ with_bank_xor shape (digits_at shape addr)

pub stands : (shape : Geometry) (addr : ℕ) (q : Place) → place_of shape addr ≡ Some q → Stands shape addr q
stands shape addr q placed = elim (below_or_not addr (capacity_of shape)) [
  | inl low ↦ (let here = place_of-below shape addr low in let same : q ≡ with_bank_xor shape (digits_at shape addr) = cc in record { low = low; is = same })
  | inr past ↦ absurd (let none = place_of-past shape addr past in cc)
]

pub placed_in_range : (shape : Geometry) (addr : ℕ) (q : Place) → place_of shape addr ≡ Some q → in_range shape q ≡ true
placed_in_range shape addr q placed = ap (in_range shape) (stands shape addr q placed).is ∙ place-in_range shape addr
