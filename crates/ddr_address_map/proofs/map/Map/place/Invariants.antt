use Rattle.std.proofs.Common.{◌≡◌, ◌/◌, ◌%◌, ◌≤◌, drop}
use Rattle.ddr_timing.specs.declared.geometry.Digit.{Digit}
use Rattle.ddr_address_map.specs.Map.{size_of, digit_of, digit_in}
use Rattle.ddr_address_map.proofs.Radix.{times, numbers}
use Rattle.ddr_address_map.proofs.Walk.{digit_or}
use Rattle.ddr_address_map.proofs.map.Map.place.Given as goal

abbrev pub invariant-loop-digit : goal.invariant-loop-digit
invariant-loop-digit l = record {
  once : (d : Digit) → times (drop l.digit-index l.self.geometry.map) d ≤ 1;
  quotient : l.rest / numbers (size_of l.self.geometry) (drop l.digit-index l.self.geometry.map) ≡ (l.addr / 64) / numbers (size_of l.self.geometry) l.self.geometry.map;
  digits : (d : Digit) → digit_or (size_of l.self.geometry) (drop l.digit-index l.self.geometry.map) l.rest (digit_in l.place d) d ≡ digit_of (size_of l.self.geometry) l.self.geometry.map (l.addr / 64) d;
  offset : l.place.offset ≡ l.addr % 64;
}
