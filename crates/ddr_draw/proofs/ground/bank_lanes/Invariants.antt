use Rattle.std.proofs.Common.{◌≡◌, ◌+◌, string_bytes}
use Rattle.std.specs.Prelude.{flat_map}
use Rattle.std.specs.List.{range_with_len}
use Rattle.ddr_draw.specs.declared.scale.TheConstants.{FIRST_BANK_LANE}
use Rattle.ddr_draw.specs.Lanes.{lane}
use Rattle.ddr_draw.specs.Names.{bank_numbered}
use Rattle.ddr_draw.proofs.ground.bank_lanes.Given as goal

abbrev pub invariant-loop-number : goal.invariant-loop-number
invariant-loop-number l = string_bytes l.text ≡ flat_map (λ n. lane l.view (n + FIRST_BANK_LANE) (bank_numbered l.geometry n)) (range_with_len 0 l.number)
