-- One port more has submitted, and those before it wait on.
use Rattle.std.proofs.Common.{◌≡◌, ◌≢◌, ◌≤◌, ◌-◌, ℕ, arith, below_more, inl, inr, refl, subst, ◌∙◌}
use Rattle.std.proofs.lemmas.Result.{err_from_is_err_and}
use Rattle.ddr_stream.specs.Waiting.{IsSized, Knows, all_in}
use Rattle.ddr_replay.specs.Ahead.{AreSubmitted, Carries}
use Rattle.ddr_replay.specs.View.{Replay}
use Rattle.ddr_replay.proofs.AheadLemmas.{carries_fault}
use Rattle.ddr_replay.proofs.PortLemmas.{ports_begun, ports_led}
use Rattle.ddr_replay.proofs.replaying.Replaying.submit_from_to.Goals as goal

pub returns-in_err-submit-clause-fault : goal.returns-in_err-submit-clause-fault
returns-in_err-submit-clause-fault g c =
    let p = err_from_is_err_and c.from_residual.result c.from_residual.ensures.1 in
    let old = c.args.self.now in
    let mid = c.loop-port.self in
    let from = c.args.from in
    rw (p.1, p.2) (carries_fault (λ all next. AreSubmitted from (c.loop-port.port - from) c.loop-port.until old mid all next) (all_in old.stream (g.R.Read.remaining c.args.reader.now)) (all_in mid.stream (g.R.Read.remaining c.loop-port.reader)) c.in_err-submit.field-0.0 c.loop-port.invariant.run c.in_err-submit.ensures.fault)

pub loop-port-init : goal.loop-port-init
loop-port-init g c =
    let old = c.args.self.now in
    record {
      run = ports_begun old c.args.from 18446744073709551615 (all_in old.stream (g.R.Read.remaining c.args.reader.now));
      knows = λ q from to. absurd (omega (arith, from, to));
      others = λ q apart known. known;
      sized = subst (λ (r : Replay). IsSized r.stream) c.self.view_is c.self.invariant.sized;
      stream = subst (λ (r : Replay). r.stream.config ≡ r.config) c.self.view_is c.self.invariant.stream;
      same = record { config = refl; wanted = refl; round = refl };
      told = λ earlier told. told;
    }

pub loop-port-preserved : goal.loop-port-preserved
loop-port-preserved g c =
    let old = c.args.self.now in
    let mid = c.loop-port.self in
    let new = c.submit.new.self in
    let port = c.loop-port.port in
    let from = c.args.from in
    let kept = c.loop-port.invariant in
    let submit = c.submit.ensures in
    let behind : from ≤ port = omega arith in
    record {
      run = ports_led old mid new from port c.loop-port.until c.in_ok-submit.field-0 c.min-until.result (all_in old.stream (g.R.Read.remaining c.args.reader.now)) (all_in mid.stream (g.R.Read.remaining c.loop-port.reader)) (all_in new.stream (g.R.Read.remaining c.submit.new.reader))
          behind (omega (arith, c.min-until.ensures)) (omega (arith, c.min-until.ensures)) kept.run c.in_ok-submit.ensures.run;
      knows = λ q above to. below_more (λ k. from ≤ k → Knows new.stream k) port (λ k below from_here.
          let other : k ≢ port = omega (arith, below) in
          submit.others k other (kept.knows k from_here below)) (λ from_here. c.in_ok-submit.ensures.knows) q to above;
      others = λ q apart known. elim apart [
        | inl before ↦ (let other : q ≢ port = omega (arith, before, behind) in submit.others q other (kept.others q (inl before) known))
        | inr later ↦ (let other : q ≢ port = omega (arith, later) in submit.others q other (kept.others q (inr (omega (arith, later))) known))
      ];
      sized = submit.sized;
      stream = submit.stream;
      same = record {
        config = submit.same.config ∙ kept.same.config;
        wanted = submit.same.wanted ∙ kept.same.wanted;
        round = submit.same.round ∙ kept.same.round;
      };
      told = λ earlier told. c.in_ok-submit.ensures.told earlier (kept.told earlier told);
    }

pub returns-clause-run : goal.returns-clause-run
returns-clause-run g c =
    let old = c.args.self.now in
    let last = c.loop-port.self in
    let all : c.loop-port.port ≡ c.args.to = omega (arith, c.loop-port-test.false, c.loop-port.auto.port-end, c.requires.ordered) in
    subst (λ (n : ℕ). Carries (λ every next. AreSubmitted c.args.from (n - c.args.from) c.loop-port.until old last every next) (all_in old.stream (g.R.Read.remaining c.args.reader.now)) (all_in last.stream (g.R.Read.remaining c.loop-port.reader))) all c.loop-port.invariant.run

pub returns-clause-others : goal.returns-clause-others
returns-clause-others g c = λ q beside knew.
    c.loop-port.invariant.others q (elim beside [
      | inl below ↦ inl below
      | inr above ↦ inr (omega (arith, above, c.requires.ordered, c.loop-port.auto.port-end))
    ]) knew
