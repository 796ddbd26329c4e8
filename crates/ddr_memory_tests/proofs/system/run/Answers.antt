use Rattle.ddr_memory_tests.proofs.StoppedLemmas.{end_of_stopped}
use Rattle.ddr_memory_tests.proofs.system.run.Goals as goal

pub returns-in-Err : goal.returns-in-Err
returns-in-Err g c = end_of_stopped c.run_stopped.result c.args.worker c.in-Err.stopped.worker c.in-Err.ensures.same c.run_stopped.ensures
