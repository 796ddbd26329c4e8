-- The ports from the first one on have submitted, and then those before it: all of them.
use Rattle.std.proofs.Common.{◌≡◌, ◌-◌, ℕ, ap, arith, inl, inr, refl, subst, ◌∙◌}
use Rattle.std.proofs.lemmas.Bool.{cases_lt}
use Rattle.std.proofs.lemmas.Result.{err_from_is_err_and}
use Rattle.ddr_timing.specs.declared.config.Config.{Config}
use Rattle.ddr_stream.specs.Waiting.{all_in}
use Rattle.ddr_replay.specs.Ahead.{AreSubmitted, Carries}
use Rattle.ddr_replay.specs.View.{Replay}
use Rattle.ddr_replay.proofs.AheadLemmas.{carries_fault}
use Rattle.ddr_replay.proofs.PortLemmas.{all_led}
use Rattle.ddr_replay.proofs.replaying.Replaying.submit_all.Goals as goal

pub returns-in_err-submit_from_to-clause-fault : goal.returns-in_err-submit_from_to-clause-fault
returns-in_err-submit_from_to-clause-fault g c =
    let p = err_from_is_err_and c.from_residual-in_err-submit_from_to.result c.from_residual-in_err-submit_from_to.ensures.1 in
    let old = c.args.self.now in
    let mid = c.submit_from_to.new.self in
    let first = c.first_port-first.result in
    let ports = c.self.inside.config.limits.ports in
    rw (p.1, p.2) (carries_fault (λ all next. AreSubmitted first (ports - first) c.in_ok-until.until old mid all next) (all_in old.stream (g.R.Read.remaining c.args.reader.now)) (all_in mid.stream (g.R.Read.remaining c.submit_from_to.new.reader)) c.in_err-submit_from_to.field-0.0 c.in_ok-until.ensures.run c.in_err-submit_from_to.ensures.fault)

pub returns-clause-run : goal.returns-clause-run
returns-clause-run g c =
    let old = c.args.self.now in
    let mid = c.submit_from_to.new.self in
    let new = c.submit_from_to-2.new.self in
    let first = c.first_port-first.result in
    let until = c.in_ok-until.until in
    let a = all_in old.stream (g.R.Read.remaining c.args.reader.now) in
    let b = all_in mid.stream (g.R.Read.remaining c.submit_from_to.new.reader) in
    let d = all_in new.stream (g.R.Read.remaining c.submit_from_to-2.new.reader) in
    let ports_are : c.self.inside.config.limits.ports ≡ old.config.limits.ports = subst (λ (r : Replay). c.self.inside.config.limits.ports ≡ r.config.limits.ports) c.self.view_is refl in
    all_led old.config old mid new first until c.in_ok-submit_from_to.field-0 c.min.result a b d c.first_port-first.ensures.first c.first_port-first.ensures.within (omega (arith, c.min.ensures)) (omega (arith, c.min.ensures))
    (subst (λ (n : ℕ). Carries (λ all next. AreSubmitted first (n - first) until old mid all next) a b) ports_are c.in_ok-until.ensures.run) c.in_ok-submit_from_to.ensures.run

pub returns-clause-ahead : goal.returns-clause-ahead
returns-clause-ahead g c = λ p below.
    let one = c.submit_from_to.ensures in
    let two = c.submit_from_to-2.ensures in
    let config_is : c.submit_from_to-2.new.self.stream.config.limits.ports ≡ c.args.self.now.config.limits.ports = ap (λ (k : Config). k.limits.ports) (two.stream ∙ two.same.config ∙ one.same.config) in
    let ports_are : c.self.inside.config.limits.ports ≡ c.args.self.now.config.limits.ports = subst (λ (r : Replay). c.self.inside.config.limits.ports ≡ r.config.limits.ports) c.self.view_is refl in
    elim (cases_lt p c.first_port-first.result) [
      | inl early ↦ c.in_ok-submit_from_to.ensures.knows p (omega arith) early
      | inr late ↦ c.in_ok-submit_from_to.ensures.others p (inr late) (c.in_ok-until.ensures.knows p late (omega (arith, below, config_is, ports_are)))
    ]
