use Rattle.std.proofs.Common.{List, sym, subst}
use Rattle.ddr_workers.specs.Closing.{AreOfOneOpen, IsNotClosed}
use Rattle.ddr_workers.specs.Port.{PortEnded}
use Rattle.ddr_workers.specs.Worker.{WorkerEnded}
use Rattle.ddr_memory_tests.proofs.system.close_again.Goals as goal

pub close_back-requires : goal.close_back-requires
close_back-requires g c =
    let refused = subst (λ e. IsNotClosed 7 c.args.ports.items c.args.workers.items e) c.in-Err-OutOfMemory.field-0-is c.in-Err-OutOfMemory.ensures.err in
    let back = refused.2 in
    subst (λ (ends : List PortEnded × List WorkerEnded). AreOfOneOpen 7 ends.0 ends.1) (λ i. (sym back.ports_are i, sym back.workers_are i)) c.requires
