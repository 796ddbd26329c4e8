use Rattle.ddr_workers.specs.Port.{IsSamePort}
use Rattle.ddr_thread_tests.proofs.runs.waiting.Waits.submit_all.Given as goal

abbrev pub invariant-loop-number : goal.invariant-loop-number
invariant-loop-number g l = IsSamePort l.fn.port l.port
