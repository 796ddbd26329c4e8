-- The reply that is lent is the right one to its number, and tells when its request was served.
use Rattle.std.proofs.Common.{◌<◌, length, IfSome, sym, subst}
use Rattle.ddr_reorder.specs.Replies.{lent_service, said}
use Rattle.ddr_world.specs.Kept.{Kept}
use Rattle.ddr_world.specs.Record.{IsRightAt}
use Rattle.ddr_world.specs.Served.{TellsService}
use Rattle.ddr_world.specs.View.{kept_of}
use Rattle.ddr_world.proofs.RecordLemmas.{served_is_right, served_tells}
use Rattle.ddr_world.proofs.WholeLemmas.{port_there}
use Rattle.ddr_world.proofs.world.World.served.Goals as goal

pub returns-clause-right : goal.returns-clause-right
returns-clause-right c =
    let a = c.self.inside in
    let within = subst (λ (k : Kept). c.args.port < length k.ports) (sym c.self.view_is) (c.has_port.ensures.0 c.if-not-has_port.false) in
    subst (λ (k : Kept). IfSome c.served.result (λ reply. IsRightAt k c.args.port c.args.number (said reply))) c.self.view_is
    (served_is_right (kept_of a) c.args.port c.args.number c.index.result.now c.served.result (port_there a c.args.port c.index.result.now within c.index.ensures) c.served.ensures.answer)

pub returns-clause-served : goal.returns-clause-served
returns-clause-served c =
    let a = c.self.inside in
    let within = subst (λ (k : Kept). c.args.port < length k.ports) (sym c.self.view_is) (c.has_port.ensures.0 c.if-not-has_port.false) in
    subst (λ (k : Kept). IfSome c.served.result (λ reply. TellsService k (said reply) (lent_service reply))) c.self.view_is
    (served_tells (kept_of a) c.args.port c.args.number c.index.result.now c.served.result (port_there a c.args.port c.index.result.now within c.index.ensures) c.served.ensures.answer c.served.ensures.service)
