use Rattle.std.proofs.Common.{sym, ap, ◌∙◌}
use Rattle.std.specs.List.{fold}
use Rattle.std.specs.Option.{option_to_list}
use Rattle.ddr_run.specs.Threads.{cause_after, stop_in}
use Rattle.ddr_run.proofs.ThreadLemmas.{cause_more}
use Rattle.ddr_run.proofs.threads.first_stop.Goals as goal

pub loop-seat-preserved : goal.loop-seat-preserved
loop-seat-preserved c =
    let seat = c.seat-item.result in
    c.cause_with-cause.ensures ∙ ap (λ cause. fold cause_after cause (option_to_list (stop_in seat))) c.loop-seat.invariant ∙ sym (cause_more c.loop-seat.seat-index seat c.args.seats.now c.loop-seat-test.true c.seat-item.is)
