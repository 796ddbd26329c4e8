use Rattle.std.proofs.Common.{◌≡◌, ◌+◌, ◌*◌, string_bytes}
use Rattle.std.specs.Prelude.{flat_map}
use Rattle.std.specs.List.{range_with_len}
use Rattle.ddr_draw.specs.declared.scale.TheConstants.{TICK_CLOCKS}
use Rattle.ddr_draw.specs.Lanes.{tick}
use Rattle.ddr_draw.proofs.ground.ticks.Given as goal

abbrev pub invariant-loop-number : goal.invariant-loop-number
invariant-loop-number l = string_bytes l.text ≡ flat_map (λ n. tick l.geometry l.view (l.view.from + TICK_CLOCKS * n)) (range_with_len 0 l.number)
