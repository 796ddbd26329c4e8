-- The channel takes what was popped.
use Rattle.std.proofs.Common.{Bool, List, sym, subst, ◌∙◌}
use Rattle.std.proofs.lemmas.List.{with_items_is}
use Rattle.ddr_world.specs.Items.{MayTake, Takes}
use Rattle.ddr_workers.specs.WorkerView.{HasTried, IsWhole, state_of}
use Rattle.ddr_workers.proofs.WorkerLemmas.{may_take, whole_taken, tried_taken, tried_empty}
use Rattle.ddr_workers.proofs.worker.Worker.accept.Goals as goal

pub take_in-requires : goal.take_in-requires
take_in-requires g c =
    let a = c.self.inside in
    subst (λ (noted : List Bool). MayTake c.in-Some.item a.channel noted) (sym c.as_mut_slice.ensures.value)
    (may_take (state_of a) c.in-Some.item c.self.invariant c.in-Some.ensures.next (c.room.ensures.0 c.if-not-room.false))

pub invariant_of-self : goal.invariant_of-self
invariant_of-self g c =
    let a = c.self.inside in
    let noted = c.take_in.new.noted in
    let same = with_items_is a.noted noted (c.take_in.auto.noted ∙ c.as_mut_slice.ensures.len) in
    let takes = subst (λ (old : List Bool). Takes c.in-Some.item a.channel c.take_in.new.self old noted) c.as_mut_slice.ensures.value c.take_in.ensures in
    subst (λ (xs : List Bool). IsWhole (record (state_of a) { channel = c.take_in.new.self; requests = c.pop.new.self; noted = xs })) (sym same)
    (whole_taken (state_of a) c.take_in.new.self c.in-Some.item c.pop.new.self noted c.self.invariant c.in-Some.ensures.popped c.in-Some.ensures.next (c.room.ensures.0 c.if-not-room.false) takes)

pub returns-in-Some-clause-tried : goal.returns-in-Some-clause-tried
returns-in-Some-clause-tried g c =
    let a = c.self.inside in
    let noted = c.take_in.new.noted in
    let same = with_items_is a.noted noted (c.take_in.auto.noted ∙ c.as_mut_slice.ensures.len) in
    let takes = subst (λ (old : List Bool). Takes c.in-Some.item a.channel c.take_in.new.self old noted) c.as_mut_slice.ensures.value c.take_in.ensures in
    subst (λ (xs : List Bool). HasTried (record (state_of a) { channel = c.take_in.new.self; requests = c.pop.new.self; noted = xs })) (sym same)
    (tried_taken (state_of a) c.take_in.new.self c.in-Some.item c.pop.new.self noted (subst HasTried (sym c.self.view_is) c.requires) c.in-Some.ensures.popped (c.room.ensures.0 c.if-not-room.false) takes)

pub returns-in_default-clause-tried : goal.returns-in_default-clause-tried
returns-in_default-clause-tried g c =
    tried_empty (state_of c.self.inside) c.pop.new.self (subst HasTried (sym c.self.view_is) c.requires) c.in_default.ensures.same
