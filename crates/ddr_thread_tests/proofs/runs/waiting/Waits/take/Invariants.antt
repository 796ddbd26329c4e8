use Rattle.ddr_workers.specs.Port.{IsSamePort}
use Rattle.ddr_thread_tests.proofs.runs.waiting.Waits.take.Given as goal

abbrev pub invariant-loop-number : goal.invariant-loop-number
invariant-loop-number l = IsSamePort l.fn.port l.port
