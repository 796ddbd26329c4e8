use Rattle.std.proofs.Common.{ℕ, ◌+◌, List, [], ◌∷◌, ◌++◌, sym, ◌∙◌, subst}
use Rattle.ddr_world.specs.declared.item.Item.{Item}
use Rattle.ddr_workers.specs.declared.requests.Route.{Route}
use Rattle.ddr_workers.specs.Lanes.{AreLanes, lists}
use Rattle.ddr_workers.specs.Sides.{PutSide, TakeSide}
use Rattle.ddr_workers.proofs.GatherLemmas.{room_in}
use Rattle.ddr_workers.proofs.LaneLemmas.{one_lane_more}
use Rattle.ddr_workers.proofs.system.request_lanes.Goals as goal

pub loop-channel-preserved : goal.loop-channel-preserved
loop-channel-preserved c =
    let config = c.args.config.now in
    let aim : ℕ → Route = λ (channel : ℕ). record { geometry = config.geometry; channel = channel } in
    let n = c.loop-channel.channel in
    record {
      lanes = subst (λ (ts : List (TakeSide Route Item)). AreLanes aim config.limits.intake config.limits.ports (n + 1) (lists c.add_to_each.new.rows.items) ts) (sym c.in_ok-push.ensures.items)
          (subst (λ (rs : List (List (PutSide Route Item))). AreLanes aim config.limits.intake config.limits.ports (n + 1) rs (c.loop-channel.takes.items ++ c.in_ok-puts.take ∷ [])) (sym c.add_to_each.ensures.added)
          (one_lane_more aim config.limits.intake config.limits.ports n (lists c.loop-channel.rows.items) c.loop-channel.takes.items c.in_ok-puts.puts.items c.in_ok-puts.take c.loop-channel.invariant.lanes c.in_ok-puts.ensures));
      room = c.add_to_each.ensures.room ∙ c.loop-channel.invariant.room;
    }

pub add_to_each-requires-clause-room : goal.add_to_each-requires-clause-room
add_to_each-requires-clause-room c = room_in c.loop-channel.rows.items c.args.config.now.limits.ports c.args.config.now.geometry.channels c.loop-channel.channel c.loop-channel.invariant.room (λ k row there. c.loop-channel.invariant.lanes.row k row there) c.loop-channel-test.true
