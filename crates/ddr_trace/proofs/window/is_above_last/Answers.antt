-- The last entry is the newest.
use Rattle.std.proofs.Common.{sym}
use Rattle.ddr_trace.proofs.WindowLemmas.{last_cycle_below-append}
use Rattle.ddr_trace.proofs.window.is_above_last.Goals as goal

pub returns-in-Some : goal.returns-in-Some
returns-in-Some c =
    rw (c.in-Some.ensures.cases.0) (sym (last_cycle_below-append c.in-Some.field-0-1.now c.in-Some.last.now c.args.cycle))
