-- The port pops a completion.
use Rattle.std.proofs.Common.{◌<◌, Ok, Err, length, sym, subst}
use Rattle.std.specs.List.{slice_get, slice_set}
use Rattle.ddr_world.specs.declared.event.Outcome.TheVariants.{Collected}
use Rattle.ddr_world.specs.declared.event.Refusal.TheVariants.{Nothing}
use Rattle.ddr_world.specs.Answer.{IsAnswered}
use Rattle.ddr_world.specs.Events.{Collect}
use Rattle.ddr_world.specs.Kept.{Kept}
use Rattle.ddr_world.specs.View.{kept_of}
use Rattle.ddr_world.proofs.StepLemmas.{collect_made, collect_refused}
use Rattle.ddr_world.proofs.WholeLemmas.{port_there, old_port, whole_port, of_same, of_collect}
use Rattle.ddr_world.proofs.world.World.collect.Goals as goal

pub invariant_of-self : goal.invariant_of-self
invariant_of-self c =
    let a = c.self.inside in
    let old = c.index_mut.result.now in
    let within = subst (λ (k : Kept). c.args.port < length k.ports) (sym c.self.view_is) (c.has_port.ensures.0 c.if-not-has_port.false) in
    whole_port a c.args.port c.collect.new.self c.self.invariant
    (of_same a.config old c.collect.new.self (old_port a c.args.port old c.self.invariant within c.index_mut.ensures.value) c.in_default.ensures.none)

pub returns-in_default : goal.returns-in_default
returns-in_default c =
    let a = c.self.inside in
    let old = c.index_mut.result.now in
    let within = subst (λ (k : Kept). c.args.port < length k.ports) (sym c.self.view_is) (c.has_port.ensures.0 c.if-not-has_port.false) in
    let there = port_there a c.args.port old within c.index_mut.ensures.value in
    subst (λ (k : Kept). IsAnswered k (record (kept_of a) { ports = slice_set a.ports.items c.args.port c.collect.new.self }) (Collect c.args.port) (Err Nothing)) c.self.view_is
    (collect_refused (kept_of a) c.args.port old c.collect.new.self there c.in_default.ensures.number c.in_default.ensures.none)

pub invariant_of-self-2 : goal.invariant_of-self-2
invariant_of-self-2 c =
    let a = c.self.inside in
    let old = c.index_mut.result.now in
    let within = subst (λ (k : Kept). c.args.port < length k.ports) (sym c.self.view_is) (c.has_port.ensures.0 c.if-not-has_port.false) in
    whole_port a c.args.port c.collect.new.self c.self.invariant
    (of_collect a.config old c.collect.new.self (slice_get old.completions 0) c.in-Some.number (old_port a c.args.port old c.self.invariant within c.index_mut.ensures.value) c.in-Some.ensures.number c.collect.ensures.collected)

pub returns : goal.returns
returns c =
    let a = c.self.inside in
    let old = c.index_mut.result.now in
    let within = subst (λ (k : Kept). c.args.port < length k.ports) (sym c.self.view_is) (c.has_port.ensures.0 c.if-not-has_port.false) in
    let there = port_there a c.args.port old within c.index_mut.ensures.value in
    subst (λ (k : Kept). IsAnswered k (record (kept_of a) { ports = slice_set a.ports.items c.args.port c.collect.new.self }) (Collect c.args.port) (Ok (Collected c.in-Some.number))) c.self.view_is
    (collect_made (kept_of a) c.args.port old c.collect.new.self c.in-Some.number there c.in-Some.ensures.number c.collect.ensures.collected)
