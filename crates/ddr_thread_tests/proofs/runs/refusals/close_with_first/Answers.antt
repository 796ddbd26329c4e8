use Rattle.std.proofs.Common.{sym, subst}
use Rattle.ddr_workers.specs.Closing.{AreOfOneOpen}
use Rattle.ddr_thread_tests.proofs.runs.refusals.close_with_first.Goals as goal

pub close-requires : goal.close-requires
close-requires g c = subst (λ ports. AreOfOneOpen 7 ports c.args.back.workers.items) (sym c.in_ok-push.ensures.items) c.requires
