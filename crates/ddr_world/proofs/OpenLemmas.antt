-- A core that was opened is whole, and when it is drained.
use Rattle.std.proofs.Common.{◌≡◌, ℕ, List, All, false, length, map, replicate, get_or, refl, sym, ap, subst, ◌∙◌, arith}
use Rattle.std.specs.List.{range_with_len}
use Rattle.std.proofs.Math.ListN as math
use Rattle.std.proofs.lemmas.List.{length-map, length-replicate}
use Rattle.std.proofs.lemmas.List.FromFn.{length-range_with_len}
use Rattle.std.proofs.lemmas.List.Elements.{All-map}
use Rattle.ddr_timing.specs.declared.config.Config.{Config}
use Rattle.ddr_world.specs.declared.world.World.TheInside.{Inside}
use Rattle.ddr_world.specs.Kept.{KeptSide, opened_with, side_of}
use Rattle.ddr_world.specs.State.{PortSide, ChannelSide, IsChannelDrained, opened_port, opened_channel}
use Rattle.ddr_world.specs.View.{IsPortOf, IsWhole}

of_opened : (config : Config) (first port : ℕ) → IsPortOf config (opened_port config first port)
of_opened config first port = record { geometry = refl; channels = length-replicate config.geometry.channels false }

pub whole_opened : (a : Inside) (cycle number : ℕ) → a.ports.items ≡ map (opened_port a.config number) (range_with_len 0 a.config.limits.ports)
    → map side_of a.channels.items ≡ replicate a.config.geometry.channels (opened_channel a.config cycle) → All (λ (side : KeptSide). opened_with side ≡ (a.config, a.keeps)) a.channels.items → IsWhole a
whole_opened a cycle number ports channels as_opened = record {
  ports_are = ap (λ (xs : List PortSide). length xs) ports ∙ length-map (range_with_len 0 a.config.limits.ports) (opened_port a.config number) ∙ length-range_with_len 0 a.config.limits.ports;
  channels_are = sym (length-map a.channels.items side_of) ∙ ap (λ (xs : List ChannelSide). length xs) channels ∙ length-replicate a.config.geometry.channels (opened_channel a.config cycle);
  ports_of_config = subst (All (IsPortOf a.config)) (sym ports) (All-map (IsPortOf a.config) (opened_port a.config number) (range_with_len 0 a.config.limits.ports)
      (λ k d within. of_opened a.config number (get_or (range_with_len 0 a.config.limits.ports) k d)));
  channels_as_opened = as_opened;
}

pub sides_drained : (xs : List KeptSide) → All (λ (side : KeptSide). IsChannelDrained (side_of side)) xs → All IsChannelDrained (map side_of xs)
sides_drained xs all = All-map IsChannelDrained side_of xs all

pub drained_sides : (xs : List KeptSide) → All IsChannelDrained (map side_of xs) → All (λ (side : KeptSide). IsChannelDrained (side_of side)) xs
drained_sides xs all = λ k d within.
    subst IsChannelDrained (math.get_or-map side_of xs k d) (all k (side_of d) (omega (arith, within, length-map xs side_of)))
