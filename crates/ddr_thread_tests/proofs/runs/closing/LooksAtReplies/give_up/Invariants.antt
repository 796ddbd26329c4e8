use Rattle.ddr_workers.specs.Port.{IsSamePort}
use Rattle.ddr_thread_tests.proofs.runs.closing.LooksAtReplies.give_up.Given as goal

abbrev pub invariant-loop-number : goal.invariant-loop-number
invariant-loop-number l = IsSamePort l.fn.port l.port
