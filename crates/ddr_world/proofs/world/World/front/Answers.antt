-- The reply that is lent is the next one, and tells when its request was served.
use Rattle.std.proofs.Common.{◌<◌, length, IfSome, sym, subst}
use Rattle.ddr_reorder.specs.Replies.{lent_service, said}
use Rattle.ddr_world.specs.Kept.{Kept}
use Rattle.ddr_world.specs.Record.{IsNext}
use Rattle.ddr_world.specs.Served.{TellsService}
use Rattle.ddr_world.specs.View.{kept_of}
use Rattle.ddr_world.proofs.RecordLemmas.{lent_is_next, lent_tells}
use Rattle.ddr_world.proofs.WholeLemmas.{port_there}
use Rattle.ddr_world.proofs.world.World.front.Goals as goal

pub returns-clause-next : goal.returns-clause-next
returns-clause-next c =
    let a = c.self.inside in
    let within = subst (λ (k : Kept). c.args.port < length k.ports) (sym c.self.view_is) (c.has_port.ensures.0 c.if-not-has_port.false) in
    subst (λ (k : Kept). IfSome c.front.result (λ reply. IsNext k c.args.port (said reply))) c.self.view_is
    (lent_is_next (kept_of a) c.args.port c.index.result.now c.front.result (port_there a c.args.port c.index.result.now within c.index.ensures) c.front.ensures.answer)

pub returns-clause-served : goal.returns-clause-served
returns-clause-served c =
    let a = c.self.inside in
    let within = subst (λ (k : Kept). c.args.port < length k.ports) (sym c.self.view_is) (c.has_port.ensures.0 c.if-not-has_port.false) in
    subst (λ (k : Kept). IfSome c.front.result (λ reply. TellsService k (said reply) (lent_service reply))) c.self.view_is
    (lent_tells (kept_of a) c.args.port c.index.result.now c.front.result (port_there a c.args.port c.index.result.now within c.index.ensures) c.front.ensures.answer c.front.ensures.service)
