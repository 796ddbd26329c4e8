use Rattle.std.proofs.Common.{◌≡◌, string_bytes}
use Rattle.std.specs.Prelude.{flat_map}
use Rattle.std.specs.List.{range_with_len}
use Rattle.ddr_draw.specs.Lanes.{command_of}
use Rattle.ddr_draw.proofs.boxes.commands.Given as goal

abbrev pub invariant-loop-place : goal.invariant-loop-place
invariant-loop-place l = string_bytes l.text ≡ flat_map (command_of l.config l.view l.entries) (range_with_len 0 l.place)
