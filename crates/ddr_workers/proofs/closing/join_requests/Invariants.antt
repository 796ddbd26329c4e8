use Rattle.std.proofs.Common.{◌≡◌, ◌+◌, drop, length}
use Rattle.ddr_workers.specs.Joined.{BelowEach, IsIntakeJoined}
use Rattle.ddr_workers.specs.Lanes.{lists}
use Rattle.ddr_workers.proofs.closing.join_requests.Given as goal

abbrev pub invariant-loop : goal.invariant-loop
invariant-loop g l = record {
  puts : lists l.puts.items ≡ drop l.counter (lists l.fn.puts.items);
  takes : l.takes.items ≡ drop l.counter l.fn.takes.items;
  left : l.counter + length l.takes.items ≡ length l.fn.takes.items;
  beside : length l.puts.items ≡ length l.takes.items;
  joined : BelowEach IsIntakeJoined l.counter (lists l.fn.puts.items) l.fn.takes.items;
}
