use Rattle.std.proofs.Common.{arith}
use Rattle.ddr_workers.proofs.GatherLemmas.{room_first}
use Rattle.ddr_workers.proofs.gathered.Gathered.open.Goals as goal

pub invariant_of-result : goal.invariant_of-result
invariant_of-result g c = room_first c.in_ok-rows_with_room.field-0.items c.args.queues c.args.holders _ (omega (arith, c.in_ok-with_capacity.ensures.exact)) c.in_ok-rows_with_room.ensures.empty c.in_ok-rows_with_room.ensures.room
