use Rattle.std.proofs.Common.{◌≡◌, ◌+◌, ◌*◌, drop}
use Rattle.ddr_address_map.specs.Map.{size_of, number_of, digit_in}
use Rattle.ddr_address_map.proofs.Radix.{numbers}
use Rattle.ddr_address_map.proofs.map.Map.address.Given as goal

abbrev pub invariant-loop-digit : goal.invariant-loop-digit
invariant-loop-digit l = record {
  weight : l.weight * numbers (size_of l.self.geometry) (drop l.digit-index l.self.geometry.map) ≡ numbers (size_of l.self.geometry) l.self.geometry.map;
  number : l.number + l.weight * number_of (size_of l.self.geometry) (drop l.digit-index l.self.geometry.map) (digit_in l.digits) ≡ number_of (size_of l.self.geometry) l.self.geometry.map (digit_in l.digits);
}
