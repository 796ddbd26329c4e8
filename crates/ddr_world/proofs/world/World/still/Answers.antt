-- The channels are quiet, and nothing is to be collected.
use Rattle.std.proofs.Common.{◌≡◌, [], All, length, sym, subst}
use Rattle.std.proofs.lemmas.List.Elements.{All-map}
use Rattle.ddr_world.specs.Kept.{Kept, KeptSide, side_of, state_of}
use Rattle.ddr_world.specs.Quiet.{IsQuietFor, IsQuietSide}
use Rattle.ddr_world.proofs.world.World.still.Goals as goal

pub returns-then-not-are_ports_collected-clause-channels : goal.returns-then-not-are_ports_collected-clause-channels
returns-then-not-are_ports_collected-clause-channels c = subst (λ (k : Kept). length k.channels ≡ k.config.geometry.channels) c.self.view_is c.self.invariant.channels_are

pub returns-clause-quiet : goal.returns-clause-quiet
returns-clause-quiet c = λ some.
    let a = c.self.inside in
    let n = c.still_of.result in
    let ports = c.are_ports_collected.ensures.0 c.if-not-are_ports_collected.false in
    subst (λ (k : Kept). IsQuietFor n (state_of k)) c.self.view_is (record {
      channels = All-map (IsQuietSide n) side_of a.channels.items (subst (All (λ (side : KeptSide). IsQuietSide n (side_of side))) c.deref.ensures.value (c.still_of.ensures some));
      ports = subst (λ (k : Kept). All (λ port. port.completions ≡ []) k.ports) (sym c.self.view_is) ports;
    })
