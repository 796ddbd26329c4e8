-- What the channel does with the item that it pops.
use Rattle.std.proofs.Common.{Bool, List, length, sym, ap, subst, ◌∙◌}
use Rattle.std.proofs.lemmas.List.{with_items_is}
use Rattle.ddr_world.specs.Items.{MayTake}
use Rattle.ddr_world.specs.View.{IsServedItem}
use Rattle.ddr_channel.proofs.ListLemmas.{All-at}
use Rattle.ddr_world.proofs.SideLemmas.{may_take, taken_in, whole_popped}
use Rattle.ddr_world.proofs.channel_side.ChannelSide.take.Goals as goal

pub take_in-requires : goal.take_in-requires
take_in-requires c =
    let a = c.self.inside in
    let it = c.unwrap-item.result in
    let served = All-at (IsServedItem a.channel.config) a.requests.items 0 it c.self.invariant.served (sym c.pop_front.ensures.value ∙ c.unwrap-item.ensures) in
    subst (λ (noted : List Bool). MayTake it a.channel noted) (sym c.as_mut_slice.ensures.value)
    (may_take a.channel a.noted.items it served c.self.invariant.ports (c.room.ensures.0 c.if-not-room.false))

pub invariant_of-self : goal.invariant_of-self
invariant_of-self c =
    let a = c.self.inside in
    let noted = c.take_in.new.noted in
    let same = with_items_is a.noted noted (c.take_in.auto.noted ∙ c.as_mut_slice.ensures.len) in
    let count = ap (λ (xs : List Bool). length xs) same ∙ c.take_in.auto.noted ∙ ap (λ (xs : List Bool). length xs) c.as_mut_slice.ensures.value in
    let taken = taken_in c.unwrap-item.result a.channel c.take_in.new.channel c.as_mut_slice.result.now noted c.take_in.ensures in
    whole_popped a c.take_in.new.channel c.pop_front.new.self _ c.self.invariant taken.config c.pop_front.ensures.items count
