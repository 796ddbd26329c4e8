use Rattle.std.proofs.Common.{ℕ, ◌+◌, List, [], ◌∷◌, ◌++◌, sym, ◌∙◌, subst}
use Rattle.ddr_address_map.specs.Requests.{Completion}
use Rattle.ddr_workers.specs.declared.completions.Delivery.{Delivery}
use Rattle.ddr_workers.specs.Lanes.{AreLanes, lists}
use Rattle.ddr_workers.specs.Sides.{PutSide, TakeSide}
use Rattle.ddr_workers.proofs.GatherLemmas.{room_in}
use Rattle.ddr_workers.proofs.LaneLemmas.{one_lane_more}
use Rattle.ddr_workers.proofs.system.completion_lanes.Goals as goal

pub loop-port-preserved : goal.loop-port-preserved
loop-port-preserved c =
    let config = c.args.config.now in
    let aim : ℕ → Delivery = λ (port : ℕ). record { geometry = config.geometry; port = port } in
    let n = c.loop-port.port in
    record {
      lanes = subst (λ (ts : List (TakeSide Delivery Completion)). AreLanes aim config.limits.window config.geometry.channels (n + 1) (lists c.add_to_each.new.rows.items) ts) (sym c.in_ok-push.ensures.items)
          (subst (λ (rs : List (List (PutSide Delivery Completion))). AreLanes aim config.limits.window config.geometry.channels (n + 1) rs (c.loop-port.takes.items ++ c.in_ok-puts.take ∷ [])) (sym c.add_to_each.ensures.added)
          (one_lane_more aim config.limits.window config.geometry.channels n (lists c.loop-port.rows.items) c.loop-port.takes.items c.in_ok-puts.puts.items c.in_ok-puts.take c.loop-port.invariant.lanes c.in_ok-puts.ensures));
      room = c.add_to_each.ensures.room ∙ c.loop-port.invariant.room;
    }

pub add_to_each-requires-clause-room : goal.add_to_each-requires-clause-room
add_to_each-requires-clause-room c = room_in c.loop-port.rows.items c.args.config.now.geometry.channels c.args.config.now.limits.ports c.loop-port.port c.loop-port.invariant.room (λ k row there. c.loop-port.invariant.lanes.row k row there) c.loop-port-test.true
