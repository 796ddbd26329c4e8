use Rattle.std.proofs.Common.{◌≡◌, map, replicate, All}
use Rattle.ddr_world.specs.Kept.{KeptSide, opened_with, side_of}
use Rattle.ddr_world.specs.State.{opened_channel}
use Rattle.ddr_world.proofs.world.open_channels.Given as goal

abbrev pub invariant-loop : goal.invariant-loop
invariant-loop l = record {
  opened : map side_of l.channels.items ≡ replicate l.counter (opened_channel l.config l.first);
  as_opened : All (λ (side : KeptSide). opened_with side ≡ (l.config, l.keeps)) l.channels.items;
}
