-- The port pushes its End on the queue of the channel.
use Rattle.std.proofs.Common.{Bool, ◌<◌, true, false, eqb, Ok, Err, length, refl, sym, ap, subst, ◌∙◌, arith}
use Rattle.std.specs.List.{slice_get, slice_set}
use Rattle.std.specs.Option.{unwrap_or}
use Rattle.std.specs.Vec.{with_item}
use Rattle.std.proofs.lemmas.Bool.{eqb-true}
use Rattle.ddr_timing.specs.declared.config.Config.{Config}
use Rattle.ddr_world.specs.declared.event.Outcome.TheVariants.{Ended}
use Rattle.ddr_world.specs.declared.event.Refusal.TheVariants.{NotEmpty, Finished, Busy}
use Rattle.ddr_world.specs.Answer.{IsAnswered}
use Rattle.ddr_world.specs.Events.{End}
use Rattle.ddr_world.specs.Kept.{KeptSide, Kept, side_of}
use Rattle.ddr_world.specs.State.{PortSide, is_busy}
use Rattle.ddr_world.specs.View.{kept_of}
use Rattle.ddr_world.proofs.StepLemmas.{end_refused, end_made}
use Rattle.ddr_world.proofs.WholeLemmas.{port_there, channel_there, some_channel, old_port, old_channel, whole_port, whole_channel, of_end, told_false, same_port, same_channel}
use Rattle.ddr_world.proofs.world.World.end.Goals as goal

pub returns-then-has_outstanding : goal.returns-then-has_outstanding
returns-then-has_outstanding c =
    let a = c.self.inside in
    let in_ports = subst (λ (k : Kept). c.args.port < length k.ports) (sym c.self.view_is) (c.has_port.ensures.0 c.if-not-has_port.false) in
    let in_channels = subst (λ (k : Kept). c.args.channel < length k.channels) (sym c.self.view_is) (c.has_channel.ensures.0 c.if-not-has_channel.false) in
    let port = c.index.result.now in
    let there = port_there a c.args.port port in_ports c.index.ensures in
    let channel = some_channel a c.args.channel in_channels in
    subst (λ (k : Kept). IsAnswered k k (End c.args.port c.args.channel) (Err NotEmpty)) c.self.view_is
    (end_refused (kept_of a) c.args.port c.args.channel port channel.0 true (unwrap_or (slice_get port.pushed c.args.channel) false) (is_busy (side_of channel.0)) NotEmpty there channel.1
    (c.has_outstanding.ensures.0 c.if-has_outstanding.true) refl refl refl)

pub returns-then-has_ended : goal.returns-then-has_ended
returns-then-has_ended c =
    let a = c.self.inside in
    let in_ports = subst (λ (k : Kept). c.args.port < length k.ports) (sym c.self.view_is) (c.has_port.ensures.0 c.if-not-has_port.false) in
    let in_channels = subst (λ (k : Kept). c.args.channel < length k.channels) (sym c.self.view_is) (c.has_channel.ensures.0 c.if-not-has_channel.false) in
    let port = c.index.result.now in
    let there = port_there a c.args.port port in_ports c.index.ensures in
    let channel = some_channel a c.args.channel in_channels in
    let same = same_port a c.args.port port c.index-2.result.now in_ports c.index.ensures c.index-2.ensures in
    subst (λ (k : Kept). IsAnswered k k (End c.args.port c.args.channel) (Err Finished)) c.self.view_is
    (end_refused (kept_of a) c.args.port c.args.channel port channel.0 false true (is_busy (side_of channel.0)) Finished there channel.1
    (told_false c.has_outstanding.result (eqb (length port.core.reorder.outstanding) 0) c.has_outstanding.ensures c.if-has_outstanding.false)
    (ap (λ (p : PortSide). unwrap_or (slice_get p.pushed c.args.channel) false) same ∙ sym c.has_ended.ensures ∙ c.if-has_ended.true) refl refl)

pub returns-then-is_busy : goal.returns-then-is_busy
returns-then-is_busy c =
    let a = c.self.inside in
    let in_ports = subst (λ (k : Kept). c.args.port < length k.ports) (sym c.self.view_is) (c.has_port.ensures.0 c.if-not-has_port.false) in
    let in_channels = subst (λ (k : Kept). c.args.channel < length k.channels) (sym c.self.view_is) (c.has_channel.ensures.0 c.if-not-has_channel.false) in
    let port = c.index.result.now in
    let there = port_there a c.args.port port in_ports c.index.ensures in
    let side = c.index-3.result.now in
    let same = same_port a c.args.port port c.index-2.result.now in_ports c.index.ensures c.index-2.ensures in
    subst (λ (k : Kept). IsAnswered k k (End c.args.port c.args.channel) (Err (Busy c.args.channel))) c.self.view_is
    (end_refused (kept_of a) c.args.port c.args.channel port side false false true (Busy c.args.channel) there (channel_there a c.args.channel side in_channels c.index-3.ensures)
    (told_false c.has_outstanding.result (eqb (length port.core.reorder.outstanding) 0) c.has_outstanding.ensures c.if-has_outstanding.false)
    (ap (λ (p : PortSide). unwrap_or (slice_get p.pushed c.args.channel) false) same ∙ sym c.has_ended.ensures ∙ c.if-has_ended.false)
    (sym c.is_busy.ensures ∙ c.if-is_busy.true) refl)

pub end-requires-clause-empty : goal.end-requires-clause-empty
end-requires-clause-empty c =
    let a = c.self.inside in
    let in_ports = subst (λ (k : Kept). c.args.port < length k.ports) (sym c.self.view_is) (c.has_port.ensures.0 c.if-not-has_port.false) in
    let in_channels = subst (λ (k : Kept). c.args.channel < length k.channels) (sym c.self.view_is) (c.has_channel.ensures.0 c.if-not-has_channel.false) in
    let port = c.index.result.now in
    ap (λ (p : PortSide). length p.core.reorder.outstanding) (same_port a c.args.port c.index_mut.result.now port in_ports c.index_mut.ensures.value c.index.ensures)
    ∙ eqb-true (length port.core.reorder.outstanding) 0 (told_false c.has_outstanding.result (eqb (length port.core.reorder.outstanding) 0) c.has_outstanding.ensures c.if-has_outstanding.false)

pub end-requires-clause-there : goal.end-requires-clause-there
end-requires-clause-there c =
    let a = c.self.inside in
    let in_ports = subst (λ (k : Kept). c.args.port < length k.ports) (sym c.self.view_is) (c.has_port.ensures.0 c.if-not-has_port.false) in
    let in_channels = subst (λ (k : Kept). c.args.channel < length k.channels) (sym c.self.view_is) (c.has_channel.ensures.0 c.if-not-has_channel.false) in
    let of = old_port a c.args.port c.index_mut.result.now c.self.invariant in_ports c.index_mut.ensures.value in
    omega (arith, in_channels, of.channels, c.self.invariant.channels_are)

pub push-requires-clause-free : goal.push-requires-clause-free
push-requires-clause-free c =
    let a = c.self.inside in
    let in_ports = subst (λ (k : Kept). c.args.port < length k.ports) (sym c.self.view_is) (c.has_port.ensures.0 c.if-not-has_port.false) in
    let in_channels = subst (λ (k : Kept). c.args.channel < length k.channels) (sym c.self.view_is) (c.has_channel.ensures.0 c.if-not-has_channel.false) in
    ap (λ (side : KeptSide). is_busy (side_of side)) (same_channel a c.args.channel c.index_mut-2.result.now c.index-3.result.now in_channels c.index_mut-2.ensures.value c.index-3.ensures)
    ∙ sym c.is_busy.ensures ∙ c.if-is_busy.false

pub push-requires-clause-served : goal.push-requires-clause-served
push-requires-clause-served c =
    let a = c.self.inside in
    let in_ports = subst (λ (k : Kept). c.args.port < length k.ports) (sym c.self.view_is) (c.has_port.ensures.0 c.if-not-has_port.false) in
    let in_channels = subst (λ (k : Kept). c.args.channel < length k.channels) (sym c.self.view_is) (c.has_channel.ensures.0 c.if-not-has_channel.false) in
    let config = old_channel a c.args.channel c.index_mut-2.result.now c.self.invariant in_channels c.index_mut-2.ensures.value in
    omega (arith, in_ports, ap (λ (x : Config × Bool). x.0.limits.ports) config, c.self.invariant.ports_are)

pub invariant_of-self : goal.invariant_of-self
invariant_of-self c =
    let a = c.self.inside in
    let in_ports = subst (λ (k : Kept). c.args.port < length k.ports) (sym c.self.view_is) (c.has_port.ensures.0 c.if-not-has_port.false) in
    let in_channels = subst (λ (k : Kept). c.args.channel < length k.channels) (sym c.self.view_is) (c.has_channel.ensures.0 c.if-not-has_channel.false) in
    let old = c.index_mut.result.now in
    let of = old_port a c.args.port old c.self.invariant in_ports c.index_mut.ensures.value in
    whole_channel (record a { ports = with_item a.ports c.args.port c.end.new.self }) c.args.channel c.push.new.self
    (whole_port a c.args.port c.end.new.self c.self.invariant (of_end a.config old c.end.new.self c.args.channel of c.end.ensures))
    (c.push.ensures.opened ∙ old_channel a c.args.channel c.index_mut-2.result.now c.self.invariant in_channels c.index_mut-2.ensures.value)

pub returns : goal.returns
returns c =
    let a = c.self.inside in
    let in_ports = subst (λ (k : Kept). c.args.port < length k.ports) (sym c.self.view_is) (c.has_port.ensures.0 c.if-not-has_port.false) in
    let in_channels = subst (λ (k : Kept). c.args.channel < length k.channels) (sym c.self.view_is) (c.has_channel.ensures.0 c.if-not-has_channel.false) in
    let port = c.index_mut.result.now in
    let side = c.index_mut-2.result.now in
    let there = port_there a c.args.port port in_ports c.index_mut.ensures.value in
    let channel = channel_there a c.args.channel side in_channels c.index_mut-2.ensures.value in
    let first = same_port a c.args.port port c.index.result.now in_ports c.index_mut.ensures.value c.index.ensures in
    let second = same_port a c.args.port port c.index-2.result.now in_ports c.index_mut.ensures.value c.index-2.ensures in
    let third = same_channel a c.args.channel side c.index-3.result.now in_channels c.index_mut-2.ensures.value c.index-3.ensures in
    subst (λ (k : Kept). IsAnswered k (record (kept_of a) { ports = slice_set a.ports.items c.args.port c.end.new.self; channels = slice_set a.channels.items c.args.channel c.push.new.self }) (End c.args.port c.args.channel) (Ok Ended)) c.self.view_is
    (end_made (kept_of a) c.args.port c.args.channel port c.end.new.self side c.push.new.self there channel
    (ap (λ (p : PortSide). eqb (length p.core.reorder.outstanding) 0) first
    ∙ told_false c.has_outstanding.result (eqb (length c.index.result.now.core.reorder.outstanding) 0) c.has_outstanding.ensures c.if-has_outstanding.false)
    (ap (λ (p : PortSide). unwrap_or (slice_get p.pushed c.args.channel) false) second ∙ sym c.has_ended.ensures ∙ c.if-has_ended.false)
    (ap (λ (s : KeptSide). is_busy (side_of s)) third ∙ sym c.is_busy.ensures ∙ c.if-is_busy.false)
    c.end.ensures c.push.ensures.state)
