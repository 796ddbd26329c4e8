-- Each channel makes its cycles.
use Rattle.std.proofs.Common.{◌≡◌, List, ◌++◌, All, length, map, sym, ap, subst, ◌∙◌}
use Rattle.std.proofs.lemmas.List.{with_items_is}
use Rattle.ddr_channel.specs.Kept as channel_kept
use Rattle.ddr_channel.specs.Quiet as quiet
use Rattle.ddr_world.specs.Kept.{Kept, KeptSide, opened_with, side_of, state_of}
use Rattle.ddr_world.specs.Quiet.{IsQuiet, cycles_made, passed, side_passed}
use Rattle.ddr_world.specs.Record.{StandsFor}
use Rattle.ddr_world.specs.State.{ChannelSide}
use Rattle.ddr_world.specs.View.{kept_of}
use Rattle.ddr_world.proofs.QuietLemmas.{all_quiet, openings_kept, stands_passed}
use Rattle.ddr_world.proofs.world.World.pass.Goals as goal

pub pass_all-requires : goal.pass_all-requires
pass_all-requires c =
    subst (All (λ (side : KeptSide). quiet.IsQuiet c.args.count (channel_kept.state_of side.channel))) (sym c.as_mut_slice.ensures.value)
    (all_quiet c.args.count (kept_of c.self.inside) (subst (λ (k : Kept). IsQuiet c.args.count (state_of k)) (sym c.self.view_is) c.requires))

pub invariant_of-self : goal.invariant_of-self
invariant_of-self c =
    let a = c.self.inside in
    let new = c.pass_all.new.channels in
    let items = with_items_is a.channels new (c.pass_all.auto.channels ∙ c.as_mut_slice.ensures.len) in
    record {
      ports_are = c.self.invariant.ports_are;
      channels_are = ap (λ (xs : List KeptSide). length xs) items ∙ c.pass_all.auto.channels ∙ ap (λ (xs : List KeptSide). length xs) c.as_mut_slice.ensures.value ∙ c.self.invariant.channels_are;
      ports_of_config = c.self.invariant.ports_of_config;
      channels_as_opened = subst (All (λ (side : KeptSide). opened_with side ≡ (a.config, a.keeps))) (sym items)
          (openings_kept (a.config, a.keeps) a.channels.items new (c.pass_all.ensures.opened ∙ ap (map opened_with) c.as_mut_slice.ensures.value) c.self.invariant.channels_as_opened);
    }

pub returns-clause-stands : goal.returns-clause-stands
returns-clause-stands c = λ opening earlier stands.
    let a = c.self.inside in
    let count = c.args.count in
    let new = c.pass_all.new.channels in
    let items = with_items_is a.channels new (c.pass_all.auto.channels ∙ c.as_mut_slice.ensures.len) in
    subst (λ (xs : List KeptSide). StandsFor (record { config = a.config; keeps = a.keeps; ports = a.ports.items; channels = xs }) opening (earlier ++ cycles_made count (length c.args.self.now.channels))) (sym items)
    (stands_passed count c.args.self.now (record { config = a.config; keeps = a.keeps; ports = a.ports.items; channels = new }) opening earlier c.requires (ap (λ (k : Kept). k.config) c.self.view_is) (ap (λ (k : Kept). k.keeps) c.self.view_is)
    (ap (λ (xs : List ChannelSide). record { ports = a.ports.items; channels = xs }) (c.pass_all.ensures.state ∙ ap (λ (xs : List KeptSide). map (side_passed count) (map side_of xs)) c.as_mut_slice.ensures.value)
    ∙ ap (λ (k : Kept). passed count (state_of k)) c.self.view_is)
    stands)
