use Rattle.std.proofs.Common.{◌≡◌, false}
use Rattle.std.specs.List.{list_any, range_with_len}
use Rattle.ddr_world.specs.Kept.{state_of}
use Rattle.ddr_ledger.specs.Numbers.{is_spent}
use Rattle.ddr_ledger.proofs.numbers.is_any_spent.Given as goal

abbrev pub invariant-loop-channel : goal.invariant-loop-channel
invariant-loop-channel l = list_any (is_spent (state_of l.world)) (range_with_len 0 l.channel) ≡ false
