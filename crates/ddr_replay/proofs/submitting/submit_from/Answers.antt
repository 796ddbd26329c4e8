-- One request after another is accepted, until one has to wait.
use Rattle.std.proofs.Common.{◌≤◌, ◌<◌, Err, arith, refl, ap, sym, subst, ◌∙◌}
use Rattle.ddr_ports.specs.Asked.{Asked}
use Rattle.ddr_world.specs.declared.event.Refusal.{Refusal}
use Rattle.ddr_world.specs.Events.{Submit}
use Rattle.ddr_world.specs.Kept.{state_of}
use Rattle.ddr_world.specs.State.{State}
use Rattle.ddr_world.specs.Step.{step}
use Rattle.ddr_rounds.specs.Rounds.{outstanding}
use Rattle.ddr_stream.specs.Asks.{asked_by}
use Rattle.ddr_stream.specs.Waiting.{Knows, Waiting, all_in}
use Rattle.ddr_replay.specs.Ahead.{Carries}
use Rattle.ddr_ledger.specs.Ledgers.{Ledger, with_accepted, with_wait}
use Rattle.ddr_replay.specs.Runs.{accepted_in}
use Rattle.ddr_replay.specs.Waits.{IsFull}
use Rattle.ddr_replay.proofs.AheadLemmas.{carries_read}
use Rattle.ddr_replay.proofs.SubmitLemmas.{IsLed, full_of, led_end, led_on, led_refused, led_start, one_more, popped_knows, port_within, submitted_later, submitted_more, submitted_none, waits_full, waits_later, waits_none}
use Rattle.ddr_rounds.proofs.TraceLemmas.{submit_traces}
use Rattle.ddr_replay.proofs.submitting.submit_from.Goals as goal

pub asks-init : goal.asks-init
asks-init g c = record {
  led = led_start c.args.port c.args.round (state_of c.args.world.now) c.args.ledger.now (all_in c.args.stream.now (g.R.Read.remaining c.args.reader.now));
  others = λ q other knows. knows;
  stream = refl;
  sized = c.requires.sized;
  config = refl;
  keeps = refl;
  traces = λ d. refl;
  served = refl;
  count = refl;
}

pub returns-then-ask-from-clause-submitted : goal.returns-then-ask-from-clause-submitted
returns-then-ask-from-clause-submitted g c =
    let w = c.first.new.self in
    let more = g.R.Read.remaining c.first.new.reader in
    let a = all_in c.args.stream.now (g.R.Read.remaining c.args.reader.now) in
    let s = state_of c.asks.world in
    let ask = c.in-Some.ask in
    let port = c.args.port in
    let round = c.args.round in
    let led = carries_read (λ all next. IsLed port round (state_of c.args.world.now) c.args.ledger.now s c.asks.ledger all next) a (all_in c.asks.stream (g.R.Read.remaining c.asks.reader)) (all_in w more) c.asks.invariant.led c.in_ok-ask.ensures.same in
    let first = sym c.in-Some.is ∙ c.in_ok-ask.ensures.first in
    let later : round < ask.at = omega (arith, c.if-ask-from.true, c.from.ensures) in
    led_end port round ask.at (state_of c.args.world.now) c.args.ledger.now s c.asks.ledger s c.asks.ledger w more a c.in_ok-ask.ensures.rest.sized
    (port_within w c.args.stream.now.config port (c.in_ok-ask.ensures.rest.config ∙ c.asks.invariant.stream) c.requires.port) c.in_ok-ask.ensures.knows led
    (λ rest same. (submitted_later port round rest ask s c.asks.ledger (first ∙ sym same) later, waits_later port round rest ask s (first ∙ sym same)))

pub asks-preserved : goal.asks-preserved
asks-preserved g c =
    let w = c.first.new.self in
    let more = g.R.Read.remaining c.first.new.reader in
    let a = all_in c.args.stream.now (g.R.Read.remaining c.args.reader.now) in
    let s = state_of c.asks.world in
    let next = state_of c.step.new.self in
    let ask = c.in-Some.ask in
    let port = c.args.port in
    let round = c.args.round in
    let o = c.in-Ok.field-0 in
    let before = state_of c.args.world.now in
    let old = c.args.ledger.now in
    let led = carries_read (λ all last. IsLed port round before old s c.asks.ledger all last) a (all_in c.asks.stream (g.R.Read.remaining c.asks.reader)) (all_in w more) c.asks.invariant.led c.in_ok-ask.ensures.same in
    let first = sym c.in-Some.is ∙ c.in_ok-ask.ensures.first in
    let come : ask.at ≤ round = omega (arith, c.if-ask-from.false, c.from.ensures) in
    let accepted = ap (λ (q : Asked). step s (Submit port q)) (sym c.request.ensures) ∙ c.in-Ok.ensures.answer.ok in
    let rest = c.in_ok-ask.ensures.rest in
    let kept = c.asks.invariant in
    let on = led_on port round before old s c.asks.ledger next (with_accepted port (accepted_in round ask) c.asks.ledger) w more a ask rest.sized
    (port_within w c.args.stream.now.config port (rest.config ∙ kept.stream) c.requires.port) first led (λ left is. submitted_more port round left ask s next c.asks.ledger o is come accepted) in
    record {
      led = subst (λ (l : Ledger). Carries (λ all last. IsLed port round before old next l all last) a (all_in c.pop.new.self more)) (sym c.in_ok-accept-in-Ok.ensures.accepted)
          (subst (λ (v : Waiting). Carries (λ all last. IsLed port round before old next (with_accepted port (accepted_in round ask) c.asks.ledger) all last) a (all_in v more)) (sym c.pop.ensures.popped) on);
      others = λ q other knows. subst (λ (v : Waiting). Knows v q) (sym c.pop.ensures.popped) (popped_knows w port q other (rest.knows q (kept.others q other knows)));
      stream = ap (λ (v : Waiting). v.config) c.pop.ensures.popped ∙ rest.config ∙ kept.stream;
      sized = c.pop.ensures.sized;
      config = c.in-Ok.ensures.answer.config ∙ kept.config;
      keeps = c.in-Ok.ensures.answer.keeps ∙ kept.keeps;
      traces = λ d. submit_traces d c.asks.world c.step.new.self port _ _ c.in-Ok.ensures.answer ∙ kept.traces d;
      served = c.accept.ensures.served ∙ kept.served;
      count = omega (arith, kept.count, one_more s next port (asked_by ask) o accepted, ap (λ (v : Waiting). v.taken) c.pop.ensures.popped, rest.taken);
    }

pub returns-in_err-accept-in-Ok-clause-others : goal.returns-in_err-accept-in-Ok-clause-others
returns-in_err-accept-in-Ok-clause-others g c = λ q other knows.
    subst (λ (v : Waiting). Knows v q) (sym c.pop.ensures.popped) (popped_knows c.first.new.self c.args.port q other (c.in_ok-ask.ensures.rest.knows q (c.asks.invariant.others q other knows)))

pub returns-in_err-accept-in-Ok-clause-traces : goal.returns-in_err-accept-in-Ok-clause-traces
returns-in_err-accept-in-Ok-clause-traces g c = λ d.
    submit_traces d c.asks.world c.step.new.self c.args.port _ _ c.in-Ok.ensures.answer ∙ c.asks.invariant.traces d

pub returns-in_err-accept-in-Ok-clause-count : goal.returns-in_err-accept-in-Ok-clause-count
returns-in_err-accept-in-Ok-clause-count g c =
    let s = state_of c.asks.world in
    let accepted = ap (λ (q : Asked). step s (Submit c.args.port q)) (sym c.request.ensures) ∙ c.in-Ok.ensures.answer.ok in
    omega (arith, c.asks.invariant.count, one_more s (state_of c.step.new.self) c.args.port (asked_by c.in-Some.ask) c.in-Ok.field-0 accepted, ap (λ (v : Waiting). v.taken) c.pop.ensures.popped, c.in_ok-ask.ensures.rest.taken)

pub returns-in-Err-WindowFull-clause-submitted : goal.returns-in-Err-WindowFull-clause-submitted
returns-in-Err-WindowFull-clause-submitted g c =
    let w = c.first.new.self in
    let more = g.R.Read.remaining c.first.new.reader in
    let a = all_in c.args.stream.now (g.R.Read.remaining c.args.reader.now) in
    let s = state_of c.asks.world in
    let next = state_of c.step.new.self in
    let ask = c.in-Some.ask in
    let port = c.args.port in
    let round = c.args.round in
    let kept = c.asks.invariant in
    let rest = c.in_ok-ask.ensures.rest in
    let answer = c.in-Err-WindowFull.ensures.answer in
    let refused = ap (λ (q : Asked). step s (Submit port q)) (sym c.request.ensures) ∙ answer.refused in
    let come : ask.at ≤ round = omega (arith, c.if-ask-from.false, c.from.ensures) in
    let full = subst (λ (t : State). IsFull port ask t) (sym answer.err) (full_of s port ask (refused ∙ ap (λ (r : Refusal). Err r) c.in-Err-WindowFull.field-0-is)) in
    led_refused port round 18446744073709551615 (state_of c.args.world.now) c.args.ledger.now s c.asks.ledger next c.wait.new.self w more a ask c.in-Err-WindowFull.field-0 rest.sized
    (port_within w c.args.stream.now.config port (rest.config ∙ kept.stream) c.requires.port) c.in_ok-ask.ensures.knows
    (carries_read (λ all last. IsLed port round (state_of c.args.world.now) c.args.ledger.now s c.asks.ledger all last) a (all_in c.asks.stream (g.R.Read.remaining c.asks.reader)) (all_in w more) kept.led c.in_ok-ask.ensures.same)
    (sym c.in-Some.is ∙ c.in_ok-ask.ensures.first) come refused answer.err (c.wait.ensures ∙ sym (ap (λ (r : Refusal). with_wait port r c.asks.ledger) c.in-Err-WindowFull.field-0-is))
    (λ left first. waits_full port 18446744073709551615 round left ask next first come full)

pub returns-in-Err-WindowFull-clause-others : goal.returns-in-Err-WindowFull-clause-others
returns-in-Err-WindowFull-clause-others g c = λ q other knows. c.in_ok-ask.ensures.rest.knows q (c.asks.invariant.others q other knows)

pub returns-in-Err : goal.returns-in-Err
returns-in-Err g c =
    let w = c.first.new.self in
    let more = g.R.Read.remaining c.first.new.reader in
    let a = all_in c.args.stream.now (g.R.Read.remaining c.args.reader.now) in
    let s = state_of c.asks.world in
    let ask = c.in-Some.ask in
    let port = c.args.port in
    let round = c.args.round in
    let kept = c.asks.invariant in
    let rest = c.in_ok-ask.ensures.rest in
    let answer = c.in-Err.ensures.answer in
    record {
      submitted = led_refused port round 0 (state_of c.args.world.now) c.args.ledger.now s c.asks.ledger (state_of c.step.new.self) c.wait-in-Err.new.self w more a ask c.in-Err.cause rest.sized
          (port_within w c.args.stream.now.config port (rest.config ∙ kept.stream) c.requires.port) c.in_ok-ask.ensures.knows
          (carries_read (λ all last. IsLed port round (state_of c.args.world.now) c.args.ledger.now s c.asks.ledger all last) a (all_in c.asks.stream (g.R.Read.remaining c.asks.reader)) (all_in w more) kept.led c.in_ok-ask.ensures.same)
          (sym c.in-Some.is ∙ c.in_ok-ask.ensures.first) (omega (arith, c.if-ask-from.false, c.from.ensures)) (ap (λ (q : Asked). step s (Submit port q)) (sym c.request.ensures) ∙ answer.refused) answer.err c.wait-in-Err.ensures
          (λ left first ahead. absurd (omega (arith, ahead)));
      knows = c.in_ok-ask.ensures.knows;
      others = λ q other knows. rest.knows q (kept.others q other knows);
      stream = rest.config ∙ kept.stream;
      sized = rest.sized;
      config = answer.config ∙ kept.config;
      keeps = answer.keeps ∙ kept.keeps;
      traces = λ d. submit_traces d c.asks.world c.step.new.self port _ _ answer ∙ kept.traces d;
      served = ap (λ (l : Ledger). l.served) c.wait-in-Err.ensures ∙ kept.served;
      count = omega (arith, kept.count, rest.taken, ap (λ (t : State). outstanding t) answer.err);
      kind = tt;
      fault = tt;
      sure = λ never. absurd (let impossible = never in cc);
    }

pub returns-clause-submitted : goal.returns-clause-submitted
returns-clause-submitted g c =
    let w = c.first.new.self in
    let more = g.R.Read.remaining c.first.new.reader in
    let a = all_in c.args.stream.now (g.R.Read.remaining c.args.reader.now) in
    let s = state_of c.asks.world in
    let port = c.args.port in
    let round = c.args.round in
    let led = carries_read (λ all last. IsLed port round (state_of c.args.world.now) c.args.ledger.now s c.asks.ledger all last) a (all_in c.asks.stream (g.R.Read.remaining c.asks.reader)) (all_in w more) c.asks.invariant.led c.in_ok-ask.ensures.same in
    let none = sym c.in_default.is ∙ c.in_ok-ask.ensures.first in
    led_end port round 18446744073709551615 (state_of c.args.world.now) c.args.ledger.now s c.asks.ledger s c.asks.ledger w more a c.in_ok-ask.ensures.rest.sized
    (port_within w c.args.stream.now.config port (c.in_ok-ask.ensures.rest.config ∙ c.asks.invariant.stream) c.requires.port) c.in_ok-ask.ensures.knows led
    (λ rest same. (submitted_none port round rest s c.asks.ledger (none ∙ sym same), waits_none port 18446744073709551615 round rest s (none ∙ sym same)))
