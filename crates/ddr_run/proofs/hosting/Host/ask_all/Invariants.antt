use Rattle.std.proofs.Common.{map, take}
use Rattle.ddr_run.specs.Hosting.{HasAsked, asks_of}
use Rattle.ddr_text.specs.Script.{view}
use Rattle.ddr_run.proofs.hosting.Host.ask_all.Given as goal

abbrev pub invariant-loop-instruction : goal.invariant-loop-instruction
invariant-loop-instruction g l = HasAsked l.fn.self l.self (asks_of l.fn.self.core.port (map view (take l.instruction-index l.instructions)))
