use Rattle.std.proofs.Common.{◌-◌, ◌<◌, vec_len, vec_capacity, arith, sym, subst}
use Rattle.ddr_workers.specs.Gathered.{Gathering}
use Rattle.ddr_workers.proofs.GatherLemmas.{room_after}
use Rattle.ddr_workers.proofs.gathered.Gathered.add.Goals as goal

pub invariant_of-self : goal.invariant_of-self
invariant_of-self g c =
    let room : 0 < vec_capacity c.self.inside.takes - vec_len c.self.inside.takes = subst (λ (x : Gathering _ _). 0 < x.spare) (sym c.self.view_is) c.requires.room in
    room_after c.self.inside.puts.items c.add_to_each.new.rows.items c.args.puts.items _ _ (omega (arith, room, c.push_reserved.ensures.len, c.push_reserved.ensures.capacity)) c.self.invariant c.add_to_each.ensures.added c.add_to_each.ensures.room
