use Rattle.std.proofs.Common.{[]}
use Rattle.ddr_run.specs.Hosting.{HasAsked}
use Rattle.ddr_run.proofs.hosting.Host.await_all.Given as goal

abbrev pub invariant-loop : goal.invariant-loop
invariant-loop g l = HasAsked l.fn.self l.self []
