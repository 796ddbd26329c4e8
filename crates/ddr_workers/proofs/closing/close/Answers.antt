use Rattle.std.proofs.Common.{rules, ◌≡◌, ℕ, false, length, sym, ◌∙◌, subst}
use Rattle.std.proofs.lemmas.List.Sorted.{length_permutation}
use Rattle.ddr_workers.specs.Closing.{is_foreign, is_missing}
use Rattle.ddr_workers.specs.Joined.{IsRoomFor}
use Rattle.ddr_workers.proofs.ReadyLemmas.{are_ready}
use Rattle.ddr_workers.proofs.closing.close.Goals as goal

pub join_all-requires-clause-ready : goal.join_all-requires-clause-ready
join_all-requires-clause-ready g c =
    let own : is_foreign c.args.id c.args.ports.items c.args.workers.items ≡ false = search rules in
    let whole : is_missing c.args.ports.items c.args.workers.items ≡ false = search rules in
    are_ready c.args.id c.args.ports.items c.args.workers.items own whole c.requires c.put_in_order.new.ends.items c.put_in_order-2.new.ends.items
    c.put_in_order.ensures.same c.put_in_order-2.ensures.same c.put_in_order.ensures.order c.put_in_order-2.ensures.order

pub join_all-requires-clause-room : goal.join_all-requires-clause-room
join_all-requires-clause-room g c =
    let ports : c.len.result ≡ length c.args.ports.items = search rules in
    let workers : c.len-2.result ≡ length c.args.workers.items = search rules in
    let ports' = ports ∙ sym (length_permutation c.args.ports.items c.put_in_order.new.ends.items c.put_in_order.ensures.same) in
    let workers' = workers ∙ sym (length_permutation c.args.workers.items c.put_in_order-2.new.ends.items c.put_in_order-2.ensures.same) in
    subst (λ (n : ℕ × ℕ). IsRoomFor n.0 n.1 c.in-Ok.room) (λ i. (ports' i, workers' i)) c.in-Ok.ensures
