use Rattle.std.proofs.Common.{◌≡◌, false, slice_get, refl, sym, ap, ◌∙◌, subst}
use Rattle.ddr_address_map.specs.Requests.{Request as Wanted}
use Rattle.ddr_ports.specs.Asked.{asked_of}
use Rattle.ddr_ports.specs.State as core
use Rattle.ddr_world.specs.declared.item.Item.TheVariants.{Request}
use Rattle.ddr_workers.specs.Port.{PortState, IsSamePort}
use Rattle.ddr_workers.specs.PortView.{state_of}
use Rattle.ddr_workers.specs.Requests.{has_end, IsPlaced}
use Rattle.ddr_workers.specs.Sides.{after_full, after_push}
use Rattle.ddr_workers.proofs.CountedLemmas.{counted_asked, counted_busy}
use Rattle.ddr_workers.proofs.PortLemmas.{whole_submitted, whole_busy, if_some, may_push}
use Rattle.ddr_workers.proofs.SamePort.{same_stepped}
use Rattle.ddr_workers.proofs.port.Port.submit.Goals as goal

pub invariant_of-self-in-Ok : goal.invariant_of-self-in-Ok
invariant_of-self-in-Ok g c =
    record {
      whole = whole_submitted (state_of c.self.inside) (asked_of c.args.request) c.in_ok-made.made c.prepare.new.self c.push_to.new.sides.items c.made.inside.place.channel c.self.invariant.whole c.if-self.false
          c.in_ok-made.ensures.ok c.prepare.ensures.sound c.in-Ok.ensures.pushed;
      number = c.self.invariant.number ∙ ap (λ (k : core.PortState). k.port) (sym c.in_ok-made.ensures.ok);
      counted = counted_asked (state_of c.self.inside) (asked_of c.args.request) c.in_ok-made.made c.prepare.new.self c.push_to.new.sides.items c.made.inside.place.channel c.self.invariant.whole c.self.invariant.counted
          (sym c.in_ok-made.ensures.refused) c.in_ok-made.ensures.prepared (ap (λ (r : Wanted). r.place.channel) (sym c.made.view_is)) c.in_ok-made.ensures.ok c.in-Ok.ensures.pushed;
    }

pub invariant_of-self-in-Err : goal.invariant_of-self-in-Err
invariant_of-self-in-Err g c =
    let undone = c.retract.ensures.undone c.self.inside.core (asked_of c.args.request) c.in_ok-made.ensures.ok in
    record {
      whole = whole_busy (state_of c.self.inside) c.retract.new.self c.push_to.new.sides.items c.made.inside.place.channel c.self.invariant.whole undone c.in-Err.ensures.same;
      number = c.self.invariant.number ∙ ap (λ (k : core.PortState). k.port) (sym undone);
      counted = counted_busy (state_of c.self.inside) c.retract.new.self c.push_to.new.sides.items c.made.inside.place.channel c.self.invariant.counted undone c.in-Err.ensures.same;
    }

pub push_to-requires-clause-own : goal.push_to-requires-clause-own
push_to-requires-clause-own g c =
    if_some (λ side. c.in_ok-made.made.port ≡ side.who.source) (slice_get c.self.inside.requests.items c.made.inside.place.channel)
    (λ side there. (may_push (state_of c.self.inside) (asked_of c.args.request) c.in_ok-made.made c.made.inside.place.channel c.self.invariant.whole
    (sym c.in_ok-made.ensures.refused) c.in_ok-made.ensures.prepared (ap (λ (r : Wanted). r.place.channel) (sym c.made.view_is)) side there).own)

pub push_to-requires-clause-placed : goal.push_to-requires-clause-placed
push_to-requires-clause-placed g c =
    if_some (λ side. IsPlaced side.who.queue.purpose c.in_ok-made.made) (slice_get c.self.inside.requests.items c.made.inside.place.channel)
    (λ side there. (may_push (state_of c.self.inside) (asked_of c.args.request) c.in_ok-made.made c.made.inside.place.channel c.self.invariant.whole
    (sym c.in_ok-made.ensures.refused) c.in_ok-made.ensures.prepared (ap (λ (r : Wanted). r.place.channel) (sym c.made.view_is)) side there).placed)

pub push_to-requires-clause-before_end : goal.push_to-requires-clause-before_end
push_to-requires-clause-before_end g c =
    if_some (λ side. has_end side.put ≡ false) (slice_get c.self.inside.requests.items c.made.inside.place.channel)
    (λ side there. (may_push (state_of c.self.inside) (asked_of c.args.request) c.in_ok-made.made c.made.inside.place.channel c.self.invariant.whole
    (sym c.in_ok-made.ensures.refused) c.in_ok-made.ensures.prepared (ap (λ (r : Wanted). r.place.channel) (sym c.made.view_is)) side there).before_end)

pub returns-in-Ok-clause-same : goal.returns-in-Ok-clause-same
returns-in-Ok-clause-same g c =
    subst (λ (s : PortState). IsSamePort s (record (state_of c.self.inside) { core = c.prepare.new.self; requests = c.push_to.new.sides.items })) c.self.view_is
    (same_stepped (state_of c.self.inside) (record (state_of c.self.inside) { core = c.prepare.new.self; requests = c.push_to.new.sides.items }) c.made.inside.place.channel
    (λ side. after_push side (Request c.in_ok-made.made)) (λ x. refl) refl (ap (λ (k : core.PortState). k.port) c.in_ok-made.ensures.ok) c.in-Ok.ensures.pushed refl)

pub returns-in-Err-clause-same : goal.returns-in-Err-clause-same
returns-in-Err-clause-same g c =
    let undone = c.retract.ensures.undone c.self.inside.core (asked_of c.args.request) c.in_ok-made.ensures.ok in
    subst (λ (s : PortState). IsSamePort s (record (state_of c.self.inside) { core = c.retract.new.self; requests = c.push_to.new.sides.items })) c.self.view_is
    (same_stepped (state_of c.self.inside) (record (state_of c.self.inside) { core = c.retract.new.self; requests = c.push_to.new.sides.items }) c.made.inside.place.channel
    after_full (λ x. refl) refl (ap (λ (k : core.PortState). k.port) undone) c.in-Err.ensures.same refl)
