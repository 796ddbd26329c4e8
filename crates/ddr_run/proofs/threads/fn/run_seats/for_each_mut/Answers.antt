use Rattle.std.proofs.Common.{map, subst}
use Rattle.ddr_text.specs.Script.{view}
use Rattle.ddr_run.specs.Threads.{Serves}
use Rattle.ddr_run.proofs.threads.fn.run_seats.for_each_mut.Goals as goal

pub returns : goal.returns
returns g c = subst (λ before. Serves (map view c.captures.instructions.now) before c.begun.result) c.replace-taken.ensures.value c.begun.ensures
