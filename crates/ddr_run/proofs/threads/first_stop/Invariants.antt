use Rattle.std.proofs.Common.{◌≡◌, take}
use Rattle.std.specs.List.{filter_map}
use Rattle.ddr_run.specs.Threads.{first_cause, stop_in}
use Rattle.ddr_run.proofs.threads.first_stop.Given as goal

abbrev pub invariant-loop-seat : goal.invariant-loop-seat
invariant-loop-seat l = l.cause ≡ first_cause (filter_map stop_in (take l.seat-index l.seats))
