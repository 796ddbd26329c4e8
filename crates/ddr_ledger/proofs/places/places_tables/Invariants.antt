use Rattle.std.proofs.Common.{◌≡◌, string_bytes}
use Rattle.std.specs.List.{flat_map, range_with_len}
use Rattle.ddr_world.specs.Kept.{state_of}
use Rattle.ddr_ledger.specs.Places.{places_at}
use Rattle.ddr_ledger.proofs.places.places_tables.Given as goal

abbrev pub invariant-loop-channel : goal.invariant-loop-channel
invariant-loop-channel l = string_bytes l.text ≡ flat_map (places_at (state_of l.world)) (range_with_len 0 l.channel)
