-- What the core has where a port prepares a request: the port itself, and the channel of the request.
use Rattle.std.proofs.Common.{◌≡◌, ◌<◌, ℕ, true, Some, length, get_or, sym, ap, subst, ◌∙◌}
use Rattle.std.specs.List.{slice_get}
use Rattle.std.specs.Vec.{with_item}
use Rattle.ddr_address_map.specs.Map.{in_range}
use Rattle.ddr_address_map.specs.Requests.{Request}
use Rattle.ddr_world.specs.declared.world.World.TheInside.{Inside}
use Rattle.ddr_world.specs.Kept.{Kept}
use Rattle.ddr_world.specs.State.{PortSide}
use Rattle.ddr_world.specs.View.{kept_of, IsPortOf, IsWhole}
use Rattle.ddr_world.proofs.WholeLemmas.{port_there, old_port, whole_port, of_same, channel_within}

-- the core has the port, and it is of the core's configuration
pub record HasPort (a : Inside) (p : ℕ) (side : PortSide) : Type 0 where
  pub whole : IsWhole a
  pub of : IsPortOf a.config side
  pub there : slice_get a.ports.items p ≡ Some side

-- a port whose number is below theirs is there
pub has_port : (a : Inside) (p : ℕ) (side : PortSide) {k : Kept} → IsWhole a → kept_of a ≡ k → p < length k.ports → side ≡ get_or a.ports.items p side → HasPort a p side
has_port a p side whole view_is below is =
    let within : p < length a.ports.items = subst (λ (k : Kept). p < length k.ports) (sym view_is) below in
    record { whole = whole; of = old_port a p side whole within is; there = port_there a p side within is }

-- the core stays whole where the port is as it was
pub whole_still : (a : Inside) (p : ℕ) (old new : PortSide) → HasPort a p old → new ≡ old → IsWhole (record a { ports = with_item a.ports p new })
whole_still a p old new port same = whole_port a p new port.whole (of_same a.config old new port.of same)

-- the core has the channel of a request whose place the port's memory has
pub has_channel_of : (a : Inside) (p : ℕ) (side : PortSide) {q made : Request} → HasPort a p side → q ≡ made → in_range side.core.geometry made.place ≡ true → q.place.channel < length a.channels.items
has_channel_of a p side {q} port view_is placed =
    channel_within a side q.place port.whole port.of (ap (λ (r : Request). in_range side.core.geometry r.place) view_is ∙ placed)
