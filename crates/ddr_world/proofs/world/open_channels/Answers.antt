-- One channel more.
use Rattle.std.proofs.Common.{◌≡◌, [], ◌∷◌, ◌++◌, List, All, map, ap, ap₂, sym, subst, ◌∙◌}
use Rattle.std.proofs.lemmas.List.{map-append, replicate-append-replicate}
use Rattle.std.proofs.lemmas.List.Elements.{All-push}
use Rattle.ddr_world.specs.Kept.{KeptSide, opened_with, side_of}
use Rattle.ddr_world.specs.State.{ChannelSide, opened_channel}
use Rattle.ddr_world.proofs.world.open_channels.Goals as goal

pub loop-preserved : goal.loop-preserved
loop-preserved c =
    let xs = c.loop.channels.items in
    let x = c.in_ok-open.field-0 in
    let o = opened_channel c.args.config.now c.args.first in
    record {
      opened = ap (map side_of) c.in_ok-push.ensures.items ∙ map-append side_of xs (x ∷ [])
          ∙ ap₂ (λ (ys : List ChannelSide) (y : ChannelSide). ys ++ y ∷ []) c.loop.invariant.opened c.in_ok-open.ensures.state
          ∙ replicate-append-replicate c.loop.counter 1 o;
      as_opened = subst (All (λ (side : KeptSide). opened_with side ≡ (c.args.config.now, c.args.keeps))) (sym c.in_ok-push.ensures.items)
          (All-push (λ (side : KeptSide). opened_with side ≡ (c.args.config.now, c.args.keeps)) xs x c.loop.invariant.as_opened c.in_ok-open.ensures.opened);
    }
