use Rattle.std.proofs.Common.{◌≡◌, ℕ, ◌-◌, length, refl, sym, ap, ◌∙◌, subst, arith}
use Rattle.std.proofs.lemmas.Bool.{eqb-true}
use Rattle.ddr_ports.specs.State as core
use Rattle.ddr_workers.specs.Port.{PortState, PortEnded, IsSamePort, end_of}
use Rattle.ddr_workers.specs.PortView.{state_of}
use Rattle.ddr_workers.proofs.SamePort.{same_finished, same_held_up}
use Rattle.ddr_workers.proofs.EndedLemmas.{ended_kept}
use Rattle.ddr_workers.proofs.CountedLemmas.{counted_finished}
use Rattle.ddr_workers.proofs.PortLemmas.{whole_finished}
use Rattle.ddr_workers.proofs.port.Port.finish.Goals as goal

pub invariant_of-self-2 : goal.invariant_of-self-2
invariant_of-self-2 g c = record {
  whole = whole_finished (state_of c.self.inside) c.finish.new.self c.self.invariant.whole c.in-Ok.ensures.ok;
  number = c.self.invariant.number ∙ ap (λ (k : core.PortState). k.port) (sym c.in-Ok.ensures.ok);
  counted = counted_finished (state_of c.self.inside) c.finish.new.self c.self.invariant.counted c.in-Ok.ensures.ok;
}

pub invariant_of-result : goal.invariant_of-result
invariant_of-result g c =
    let nothing = eqb-true (length c.self.inside.core.reorder.outstanding) 0 (sym c.in-Ok.ensures.empty) in
    ended_kept (record (state_of c.self.inside) { core = c.finish.new.self }) (state_of c.self-2.inside) c.self-2.inside.number c.self-2.invariant.whole c.self-2.invariant.counted c.if-self.false
    (omega (arith, c.self.invariant.whole.ended, c.self.invariant.whole.channels)) (ap (λ (k : core.PortState). length k.reorder.outstanding) c.in-Ok.ensures.ok ∙ nothing) (c.self-2.view_is ∙ c.in_default.ensures.ok) c.self-2.invariant.number

-- the port after `finish` of its core, before the Ends
stepped : (s : PortState) (k : core.PortState) → k ≡ core.after_finish s.core → IsSamePort s (record s { core = k })
stepped s k is = record { id = refl; port = ap (λ (k' : core.PortState). k'.port) is; requests = refl; completions = refl }

pub returns-in-Err-end_all-clause-same : goal.returns-in-Err-end_all-clause-same
returns-in-Err-end_all-clause-same g c =
    let s = state_of c.self.inside in
    let t = record s { core = c.finish.new.self } in
    same_held_up c.args.self t c.end_all.new.self c.in-Err-end_all.channel (subst (λ (u : PortState). IsSamePort u t) c.self.view_is (stepped s c.finish.new.self c.in-Ok.ensures.ok)) c.in-Err-end_all.ensures.err

pub returns-clause-end : goal.returns-clause-end
returns-clause-end g c =
    let s = state_of c.self.inside in
    let t = record s { core = c.finish.new.self } in
    let a = c.self-2.inside in
    let e : ℕ → PortEnded = λ p. record { id = a.id; port = p; taken = a.taken; requests = a.requests.items; completions = a.completions } in
    same_finished c.args.self t (e a.number) (length t.requests - t.ended) (subst (λ (u : PortState). IsSamePort u t) c.self.view_is (stepped s c.finish.new.self c.in-Ok.ensures.ok))
    (ap e c.self-2.invariant.number ∙ ap end_of (c.self-2.view_is ∙ c.in_default.ensures.ok))
