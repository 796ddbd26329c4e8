use Rattle.std.proofs.Common.{map, sym, subst}
use Rattle.ddr_run.specs.declared.threads.Seat.TheVariants as seats
use Rattle.ddr_text.specs.Script.{view}
use Rattle.ddr_run.specs.Threads.{IsNewSeat, Serves}
use Rattle.ddr_run.proofs.ThreadLemmas.{hosted_from, worker_served}
use Rattle.ddr_run.proofs.threads.served.Goals as goal

pub returns-in-Ok : goal.returns-in-Ok
returns-in-Ok g c =
    let new = subst IsNewSeat c.in-Port.is c.requires in
    subst (λ s. Serves (map view c.args.instructions.now) s (seats.PortEnd c.in-Ok.hosted)) (sym c.in-Port.is)
    (hosted_from (map view c.args.instructions.now) c.in-Port.number c.in-Port.port c.in-Ok.hosted new.port c.in-Ok.ensures.end c.in-Ok.ensures.asked c.in-Ok.ensures.text)

pub returns-in-Worker : goal.returns-in-Worker
returns-in-Worker g c =
    let script = map view c.args.instructions.now in
    subst (λ s. Serves script s c.left_by.result) (sym c.in-Worker.is)
    (worker_served script c.in-Worker.worker c.run.result c.left_by.result c.left_by.ensures c.run.ensures.end c.run.ensures.same c.run.ensures.spent)
