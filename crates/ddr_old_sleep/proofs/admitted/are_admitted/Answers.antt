-- One more request that was admitted by then.
use Rattle.std.proofs.Common.{sym, ◌∙◌}
use Rattle.ddr_old_sleep.proofs.AdmittedLemmas.{admitted_more}
use Rattle.ddr_old_sleep.proofs.admitted.are_admitted.Goals as goal

pub loop-place-preserved : goal.loop-place-preserved
loop-place-preserved c = admitted_more c.args.pending.now.waiting c.loop-place.place c.args.now (sym c.if-not-is_admitted.ensures) c.loop-place.invariant
