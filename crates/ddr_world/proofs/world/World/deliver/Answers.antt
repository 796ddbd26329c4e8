-- The channel pushes its oldest completion on the queue of its port.
use Rattle.std.proofs.Common.{◌<◌, ◌≤◌, Ok, Err, length, sym, ap, subst, ◌∙◌, arith}
use Rattle.std.specs.List.{slice_get, slice_set}
use Rattle.std.specs.Option.{option_map}
use Rattle.std.specs.Vec.{with_item}
use Rattle.ddr_address_map.specs.Requests.{Completion}
use Rattle.ddr_world.specs.declared.event.Outcome.TheVariants.{Delivered}
use Rattle.ddr_world.specs.declared.event.Refusal.TheVariants.{Nothing, QueueFull}
use Rattle.ddr_world.specs.Answer.{IsAnswered}
use Rattle.ddr_world.specs.Events.{Deliver}
use Rattle.ddr_world.specs.Kept.{KeptSide, Kept}
use Rattle.ddr_world.specs.State.{is_completion_queue_full}
use Rattle.ddr_world.specs.View.{kept_of}
use Rattle.ddr_world.proofs.StepLemmas.{deliver_nothing, deliver_nowhere, deliver_full, deliver_made}
use Rattle.ddr_world.proofs.WholeLemmas.{port_there, channel_there, old_port, old_channel, whole_port, whole_channel, of_deliver, not_within, same_port, same_channel, is_there}
use Rattle.ddr_world.proofs.world.World.deliver.Goals as goal
use Rattle.ddr_world.proofs.world.World.deliver.Goals.{then-not-has_port-via-then-not-has_port, then-not-has_port-via-else-not-has_port+then-is_full}

pub returns-in_default : goal.returns-in_default
returns-in_default c =
    let a = c.self.inside in
    let in_channels = subst (λ (k : Kept). c.args.channel < length k.channels) (sym c.self.view_is) (c.has_channel.ensures.0 c.if-not-has_channel.false) in
    let side = c.index.result.now in
    let there = channel_there a c.args.channel side in_channels c.index.ensures in
    subst (λ (k : Kept). IsAnswered k k (Deliver c.args.channel) (Err Nothing)) c.self.view_is
    (deliver_nothing (kept_of a) c.args.channel side there c.in_default.ensures)

pub returns-then-not-has_port : goal.returns-then-not-has_port
returns-then-not-has_port c =
    let a = c.self.inside in
    let in_channels = subst (λ (k : Kept). c.args.channel < length k.channels) (sym c.self.view_is) (c.has_channel.ensures.0 c.if-not-has_channel.false) in
    let side = c.index.result.now in
    let there = channel_there a c.args.channel side in_channels c.index.ensures in
    elim c.then-not-has_port.branch [
      | then-not-has_port-via-then-not-has_port w ↦
          subst (λ (k : Kept). IsAnswered k k (Deliver c.args.channel) (Err QueueFull)) c.self.view_is
          (deliver_nowhere (kept_of a) c.args.channel c.in-Some.port side there c.in-Some.ensures
          (subst (λ (k : Kept). length k.ports ≤ c.in-Some.port) (sym c.self.view_is) (not_within c.has_port.result c.in-Some.port (length c.args.self.now.ports) c.has_port.ensures w.if-not-has_port.true)))
      | then-not-has_port-via-else-not-has_port+then-is_full w ↦
          let in_ports = subst (λ (k : Kept). c.in-Some.port < length k.ports) (sym c.self.view_is) (c.has_port.ensures.0 w.if-not-has_port.false) in
          subst (λ (k : Kept). IsAnswered k k (Deliver c.args.channel) (Err QueueFull)) c.self.view_is
          (deliver_full (kept_of a) c.args.channel c.in-Some.port side w.index-else-not-has_port.result.now there c.in-Some.ensures
          (port_there a c.in-Some.port w.index-else-not-has_port.result.now in_ports w.index-else-not-has_port.ensures) (sym w.is_full.ensures ∙ w.if-is_full.true))
    ]

pub index-requires-else-not-has_port : goal.index-requires-else-not-has_port
index-requires-else-not-has_port c =
    let a = c.self.inside in
    let in_ports = subst (λ (k : Kept). c.in-Some.port < length k.ports) (sym c.self.view_is) (c.has_port.ensures.0 c.if-not-has_port.false) in
    omega (arith, in_ports, a.ports.ok.0)

pub index_mut-requires-2 : goal.index_mut-requires-2
index_mut-requires-2 c =
    let a = c.self.inside in
    let in_ports = subst (λ (k : Kept). c.in-Some.port < length k.ports) (sym c.self.view_is) (c.has_port.ensures.0 c.if-not-has_port.false) in
    omega (arith, in_ports, a.ports.ok.0)

pub unwrap-done-requires : goal.unwrap-done-requires
unwrap-done-requires c =
    let a = c.self.inside in
    let in_channels = subst (λ (k : Kept). c.args.channel < length k.channels) (sym c.self.view_is) (c.has_channel.ensures.0 c.if-not-has_channel.false) in
    let side = c.index.result.now in
    let there = channel_there a c.args.channel side in_channels c.index.ensures in
    let same = same_channel a c.args.channel c.index_mut.result.now side in_channels c.index_mut.ensures.value c.index.ensures in
    is_there c.pop_done.result c.in-Some.port (c.pop_done.ensures.first ∙ ap (λ (s : KeptSide). slice_get s.channel.done 0) same) c.in-Some.ensures

pub deliver-requires : goal.deliver-requires
deliver-requires c =
    let a = c.self.inside in
    let in_ports = subst (λ (k : Kept). c.in-Some.port < length k.ports) (sym c.self.view_is) (c.has_port.ensures.0 c.if-not-has_port.false) in
    ap is_completion_queue_full (same_port a c.in-Some.port c.index_mut-2.result.now c.index-else-not-has_port.result.now in_ports c.index_mut-2.ensures.value c.index-else-not-has_port.ensures)
    ∙ sym c.is_full.ensures ∙ c.if-is_full.false

pub invariant_of-self : goal.invariant_of-self
invariant_of-self c =
    let a = c.self.inside in
    let in_channels = subst (λ (k : Kept). c.args.channel < length k.channels) (sym c.self.view_is) (c.has_channel.ensures.0 c.if-not-has_channel.false) in
    let side = c.index.result.now in
    let there = channel_there a c.args.channel side in_channels c.index.ensures in
    let in_ports = subst (λ (k : Kept). c.in-Some.port < length k.ports) (sym c.self.view_is) (c.has_port.ensures.0 c.if-not-has_port.false) in
    let of = old_port a c.in-Some.port c.index_mut-2.result.now c.self.invariant in_ports c.index_mut-2.ensures.value in
    whole_channel (record a { ports = with_item a.ports c.in-Some.port c.deliver.new.self }) c.args.channel c.pop_done.new.self
    (whole_port a c.in-Some.port c.deliver.new.self c.self.invariant (of_deliver a.config c.index_mut-2.result.now c.deliver.new.self c.unwrap-done.result of c.deliver.ensures))
    (c.pop_done.ensures.opened ∙ old_channel a c.args.channel c.index_mut.result.now c.self.invariant in_channels c.index_mut.ensures.value)

pub returns : goal.returns
returns c =
    let a = c.self.inside in
    let in_channels = subst (λ (k : Kept). c.args.channel < length k.channels) (sym c.self.view_is) (c.has_channel.ensures.0 c.if-not-has_channel.false) in
    let side = c.index.result.now in
    let there = channel_there a c.args.channel side in_channels c.index.ensures in
    let in_ports = subst (λ (k : Kept). c.in-Some.port < length k.ports) (sym c.self.view_is) (c.has_port.ensures.0 c.if-not-has_port.false) in
    let old = c.index_mut.result.now in
    let port = c.index_mut-2.result.now in
    let same = same_channel a c.args.channel old side in_channels c.index_mut.ensures.value c.index.ensures in
    let full = same_port a c.in-Some.port port c.index-else-not-has_port.result.now in_ports c.index_mut-2.ensures.value c.index-else-not-has_port.ensures in
    subst (λ (k : Kept). IsAnswered k (record (kept_of a) { ports = slice_set a.ports.items c.in-Some.port c.deliver.new.self; channels = slice_set a.channels.items c.args.channel c.pop_done.new.self }) (Deliver c.args.channel) (Ok Delivered)) c.self.view_is
    (deliver_made (kept_of a) c.args.channel c.in-Some.port old c.pop_done.new.self port c.deliver.new.self c.unwrap-done.result
    (channel_there a c.args.channel old in_channels c.index_mut.ensures.value)
    (c.in-Some.ensures ∙ ap (λ (s : KeptSide). option_map (λ (d : Completion). d.port) (slice_get s.channel.done 0)) (sym same))
    (sym c.unwrap-done.ensures ∙ c.pop_done.ensures.first)
    (port_there a c.in-Some.port port in_ports c.index_mut-2.ensures.value)
    (ap is_completion_queue_full full ∙ sym c.is_full.ensures ∙ c.if-is_full.false)
    c.pop_done.ensures.rest c.deliver.ensures)
