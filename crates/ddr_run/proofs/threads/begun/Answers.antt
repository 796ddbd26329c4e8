use Rattle.std.proofs.Common.{map, sym, subst}
use Rattle.ddr_text.specs.Script.{view}
use Rattle.ddr_run.specs.Threads.{Serves}
use Rattle.ddr_run.proofs.ThreadLemmas.{not_served}
use Rattle.ddr_run.proofs.threads.begun.Goals as goal

pub returns-in-Err : goal.returns-in-Err
returns-in-Err g c =
    let script = map view c.args.instructions.now in
    subst (Serves script c.args.seat) (sym c.stopped.ensures) (not_served script c.args.seat c.in-Err.stop c.in-Err.ensures c.requires)
