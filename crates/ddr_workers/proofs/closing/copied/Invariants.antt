use Rattle.std.proofs.Common.{◌≡◌, length, take, vec_capacity, vec_len}
use Rattle.ddr_workers.proofs.closing.copied.Given as goal

abbrev pub invariant-loop-place : goal.invariant-loop-place
invariant-loop-place l = record {
  items : l.room.items ≡ take l.place l.counts;
  made : vec_len l.room ≡ l.place;
  room : vec_capacity l.room ≡ length l.counts;
}
