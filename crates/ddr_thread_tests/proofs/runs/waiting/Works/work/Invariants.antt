use Rattle.ddr_workers.specs.Port.{IsSamePort}
use Rattle.ddr_thread_tests.proofs.runs.waiting.Works.work.Given as goal

abbrev pub invariant-loop-round : goal.invariant-loop-round
invariant-loop-round g l = IsSamePort l.fn.port l.port
