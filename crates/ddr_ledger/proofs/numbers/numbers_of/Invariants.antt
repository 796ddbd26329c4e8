use Rattle.std.proofs.Common.{◌≡◌, false, map}
use Rattle.std.specs.List.{list_any, range_with_len}
use Rattle.ddr_world.specs.Kept.{state_of}
use Rattle.ddr_ledger.specs.Numbers.{is_spent, numbers_at}
use Rattle.ddr_ledger.proofs.numbers.numbers_of.Given as goal

abbrev pub invariant-loop-channel : goal.invariant-loop-channel
invariant-loop-channel l = record {
  counted : l.all.items ≡ map (numbers_at (state_of l.world)) (range_with_len 0 l.channel);
  running : list_any (is_spent (state_of l.world)) (range_with_len 0 l.channel) ≡ false;
}
