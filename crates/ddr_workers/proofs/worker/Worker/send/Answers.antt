use Rattle.std.proofs.Common.{Some, refl, sym, subst}
use Rattle.ddr_address_map.specs.Requests.{Completion}
use Rattle.ddr_workers.specs.declared.completions.Delivery.{Delivery}
use Rattle.ddr_workers.specs.Sides.{PutSide, after_push, after_full}
use Rattle.ddr_workers.specs.Worker.{WorkerState, IsSameWorker}
use Rattle.ddr_workers.specs.WorkerView.{HasTried, state_of, IsWhole}
use Rattle.ddr_workers.proofs.WorkerLemmas.{whole_pushed, whole_full, tried_pushed, tried_full, same_sides}
use Rattle.ddr_workers.proofs.worker.Worker.send.Goals.{in-Some-1, in-None-1}
use Rattle.ddr_workers.proofs.worker.Worker.send.Goals as goal

abbrev Side : Type 0
Side = PutSide Delivery Completion

pub invariant_of-self-in-Ok : goal.invariant_of-self-in-Ok
invariant_of-self-in-Ok g c =
    let w = state_of c.self.inside in
    subst (λ o. IsWhole (record w { completions = c.push_to.new.sides.items; held = o })) (sym c.in-Some.ensures.after)
    (whole_pushed w c.in-Some.done c.push_to.new.sides.items c.self.invariant (sym c.in-Some.ensures.value) c.in-Ok.ensures.pushed)

pub invariant_of-self-in-Err-2 : goal.invariant_of-self-in-Err-2
invariant_of-self-in-Err-2 g c =
    whole_full (state_of c.self.inside) c.in-Some.done c.in-Err.back c.push_to.new.sides.items c.self.invariant (sym c.in-Some.ensures.value) c.in-Err.ensures.back c.in-Err.ensures.same

pub returns-in-Ok-clause-same : goal.returns-in-Ok-clause-same
returns-in-Ok-clause-same g c =
    subst (λ (w : WorkerState). IsSameWorker w (record (state_of c.self.inside) { completions = c.push_to.new.sides.items; held = c.take.new.self })) c.self.view_is
    (same_sides (state_of c.self.inside) c.take.new.self c.in-Some.done.port (λ (side : Side). after_push side c.in-Some.done) c.push_to.new.sides.items (λ x. refl) c.in-Ok.ensures.pushed)

pub returns-in-Ok-clause-tried : goal.returns-in-Ok-clause-tried
returns-in-Ok-clause-tried g c =
    let w = state_of c.self.inside in
    subst (λ o. HasTried (record w { completions = c.push_to.new.sides.items; held = o })) (sym c.in-Some.ensures.after)
    (tried_pushed w c.in-Some.done c.push_to.new.sides.items c.self.invariant (sym c.in-Some.ensures.value) c.in-Ok.ensures.pushed)

pub returns-in-Err-clause-same : goal.returns-in-Err-clause-same
returns-in-Err-clause-same g c =
    let same = subst (λ (w : WorkerState). IsSameWorker w (record (state_of c.self.inside) { completions = c.push_to.new.sides.items; held = Some c.in-Err.back })) c.self.view_is
    (same_sides (state_of c.self.inside) (Some c.in-Err.back) c.in-Some.done.port after_full c.push_to.new.sides.items (λ (x : Side). refl) c.in-Err.ensures.same) in
    elim c.match-self.branch [
      | in-Some-1 w ↦ subst (IsSameWorker c.args.self.now) (sym w.self-is) same
      | in-None-1 w ↦ subst (IsSameWorker c.args.self.now) (sym w.self-is) same
    ]

pub returns-in-Err-clause-tried : goal.returns-in-Err-clause-tried
returns-in-Err-clause-tried g c =
    let tried = tried_full (state_of c.self.inside) c.in-Some.done c.in-Err.back c.push_to.new.sides.items c.self.invariant (sym c.in-Some.ensures.value) c.in-Err.ensures.back c.in-Err.ensures.same in
    elim c.match-self.branch [
      | in-Some-1 w ↦ subst HasTried (sym w.self-is) tried
      | in-None-1 w ↦ subst HasTried (sym w.self-is) tried
    ]
