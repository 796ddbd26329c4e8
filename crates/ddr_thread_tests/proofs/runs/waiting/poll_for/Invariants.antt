use Rattle.ddr_workers.specs.Port.{IsSamePort}
use Rattle.ddr_thread_tests.proofs.runs.waiting.poll_for.Given as goal

abbrev pub invariant-loop-tried : goal.invariant-loop-tried
invariant-loop-tried g l = IsSamePort l.fn.port l.port
