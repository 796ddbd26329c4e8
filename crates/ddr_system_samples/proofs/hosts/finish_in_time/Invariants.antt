use Rattle.ddr_workers.specs.Port.{IsSamePort}
use Rattle.ddr_system_samples.proofs.hosts.finish_in_time.Given as goal

abbrev pub invariant-loop : goal.invariant-loop
invariant-loop g l = IsSamePort l.fn.port l.port
