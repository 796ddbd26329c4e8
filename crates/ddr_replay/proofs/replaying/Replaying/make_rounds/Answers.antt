-- Turn behind turn, what all requests come to is the same.
use Rattle.std.proofs.Common.{◌≡◌, ◌-◌, [], Err, true, ap, refl, sym, subst, ◌∙◌}
use Rattle.std.proofs.lemmas.Result.{err_from_is_err_and}
use Rattle.ddr_timing.specs.declared.config.Config.{Config}
use Rattle.ddr_stream.specs.Waiting.{IsAhead, all_in}
use Rattle.ddr_text.specs.declared.fault.Fault.TheVariants as faults
use Rattle.ddr_replay.specs.Ahead.{Carries, HasTold, IsCutOff, IsStopped, LeadsAlike}
use Rattle.ddr_replay.specs.Stuck.{CannotGoOn}
use Rattle.ddr_replay.specs.View.{Replay, run_of}
use Rattle.std.proofs.KnownBytes.{Appends-nil}
use Rattle.ddr_world.specs.Kept.{state_of}
use Rattle.ddr_replay.specs.Told.{commands_of, comes_at_end}
use Rattle.ddr_text.specs.declared.fault.Fault.{Fault}
use Rattle.ddr_replay.proofs.AheadLemmas.{carries_same, same_fault, same_itself, stopped_on, turn_is_replay, turn_writes_nothing}
use Rattle.ddr_replay.proofs.RunLemmas.{cut_here, leads_on, led_written, nothing_next, run_over, stuck_on, told_written, write_failed}
use Rattle.ddr_replay.proofs.ToldLemmas.{said_at_end}
use Rattle.ddr_replay.proofs.replaying.Replaying.make_rounds.Goals as goal

pub returns-in_err-turn-clause-fault : goal.returns-in_err-turn-clause-fault
returns-in_err-turn-clause-fault g c =
    let p = err_from_is_err_and c.from_residual.result c.from_residual.ensures.1 in
    let old = c.args.self.now in
    let mid = c.rounds.self in
    let a = all_in old.stream (g.R.Read.remaining c.args.reader.now) in
    let b = all_in mid.stream (g.R.Read.remaining c.rounds.reader) in
    let d = all_in c.turn.new.self.stream (g.R.Read.remaining c.turn.new.reader) in
    let fault = c.in_err-turn.field-0.0 in
    let kept = c.rounds.invariant in
    rw (p.1, p.2) (stopped_on old.config (4294967295 - old.round) (4294967295 - mid.round) old mid fault a b d kept.leads (subst (λ (k : Config). IsStopped k (4294967295 - mid.round) mid fault b d) kept.config c.in_err-turn.ensures.fault))

pub returns-in_err-turn-clause-kind : goal.returns-in_err-turn-clause-kind
returns-in_err-turn-clause-kind g c =
    let p = err_from_is_err_and c.from_residual.result c.from_residual.ensures.1 in
    rw (p.1, p.2) (turn_is_replay c.in_err-turn.field-0.0 c.in_err-turn.ensures.kind)

pub returns-in_err-turn-clause-begun : goal.returns-in_err-turn-clause-begun
returns-in_err-turn-clause-begun g c =
    let p = err_from_is_err_and c.from_residual.result c.from_residual.ensures.1 in
    let old = c.args.self.now in
    let mid = c.rounds.self in
    let kept = c.rounds.invariant in
    rw (p.1, p.2) (cut_here old.config (4294967295 - old.round) (4294967295 - mid.round) old mid c.in_err-turn.field-0.0 (g.W.Write.contents c.args.writer.now) (g.W.Write.contents c.rounds.writer) (all_in old.stream (g.R.Read.remaining c.args.reader.now)) (all_in mid.stream (g.R.Read.remaining c.rounds.reader)) kept.leads kept.wanted kept.told)

pub returns-in_err-turn-clause-idle : goal.returns-in_err-turn-clause-idle
returns-in_err-turn-clause-idle g c = λ at_end.
    let p = err_from_is_err_and c.from_residual.result c.from_residual.ensures.1 in
    ((c.rounds.invariant.idle at_end).0, λ write. turn_writes_nothing c.in_err-turn.field-0.0 c.in_err-turn.ensures.kind (sym p.2 ∙ same_fault c.from_residual.result p.0 faults.Write p.1 write))

pub returns-in_err-turn-clause-taken : goal.returns-in_err-turn-clause-taken
returns-in_err-turn-clause-taken g c = λ write.
    let p = err_from_is_err_and c.from_residual.result c.from_residual.ensures.1 in
    absurd (turn_writes_nothing c.in_err-turn.field-0.0 c.in_err-turn.ensures.kind (sym p.2 ∙ same_fault c.from_residual.result p.0 faults.Write p.1 write))

pub returns-in_err-write-clause-begun : goal.returns-in_err-write-clause-begun
returns-in_err-write-clause-begun g c =
    let p = err_from_is_err_and c.from_residual-in_err-write.result c.from_residual-in_err-write.ensures.1 in
    let old = c.args.self.now in
    let mid = c.rounds.self in
    let kept = c.rounds.invariant in
    rw (p.1, p.2) (write_failed old.config (4294967295 - old.round) (4294967295 - mid.round) old mid c.in_err-write.field-0.0 (g.W.Write.contents c.args.writer.now) (g.W.Write.contents c.rounds.writer) (g.W.Write.contents c.write.new.writer) (all_in old.stream (g.R.Read.remaining c.args.reader.now)) (all_in mid.stream (g.R.Read.remaining c.rounds.reader))
    g.W.Sink.may_fail kept.leads kept.wanted kept.told c.in_err-write.ensures.refused (λ spared. c.write.ensures.spared (c.in_err-write.was ∙ ap (λ (f : Fault). Err f) spared)))

-- the replay behind a turn that was written
abbrev behind : Replay → Replay
behind r = record r { text = [] }

pub returns-in-Some-clause-fault : goal.returns-in-Some-clause-fault
returns-in-Some-clause-fault g c =
    let old = c.args.self.now in
    let mid = c.rounds.self in
    let last = c.turn.new.self in
    let a = all_in old.stream (g.R.Read.remaining c.args.reader.now) in
    let b = all_in mid.stream (g.R.Read.remaining c.rounds.reader) in
    let d = all_in last.stream (g.R.Read.remaining c.turn.new.reader) in
    let kept = c.rounds.invariant in
    let led = leads_on old.config (4294967295 - old.round) (4294967295 - mid.round) (4294967295 - last.round) old mid last a b d kept.leads kept.config c.in_ok-turn.ensures.leads in
    let stuck = subst (λ (r : Replay). CannotGoOn r.config (run_of r) c.in-Some.cycle) c.in_ok-write.ensures.same c.in-Some.ensures.stuck in
    subst (λ (r : Replay). Carries (λ all next. IsCutOff old.config (4294967295 - old.round) old (faults.ReplayStuck c.in-Some.cycle) all) a (all_in r.stream (g.R.Read.remaining c.turn.new.reader))) (sym (c.stuck_at.ensures.same ∙ c.in_ok-write.ensures.same))
    (stuck_on old.config old last c.in-Some.cycle a d led (c.turn.ensures.config ∙ kept.config) stuck)

pub returns-in-Some-clause-begun : goal.returns-in-Some-clause-begun
returns-in-Some-clause-begun g c =
    let old = c.args.self.now in
    let mid = c.rounds.self in
    let last = c.turn.new.self in
    let a = all_in old.stream (g.R.Read.remaining c.args.reader.now) in
    let b = all_in mid.stream (g.R.Read.remaining c.rounds.reader) in
    let d = all_in last.stream (g.R.Read.remaining c.turn.new.reader) in
    let kept = c.rounds.invariant in
    let led = leads_on old.config (4294967295 - old.round) (4294967295 - mid.round) (4294967295 - last.round) old mid last a b d kept.leads kept.config c.in_ok-turn.ensures.leads in
    cut_here old.config (4294967295 - old.round) (4294967295 - last.round) old (behind last) (faults.ReplayStuck c.in-Some.cycle) (g.W.Write.contents c.args.writer.now) (g.W.Write.contents c.write.new.writer) a d (led_written old.config (4294967295 - old.round) (4294967295 - last.round) old last a d led) (c.turn.ensures.wanted ∙ kept.wanted)
    (told_written mid last (g.W.Write.contents c.args.writer.now) (g.W.Write.contents c.rounds.writer) (g.W.Write.contents c.write.new.writer) kept.told c.in_ok-turn.ensures.told c.in_ok-write.ensures.written)

pub returns-in-Some-clause-idle : goal.returns-in-Some-clause-idle
returns-in-Some-clause-idle g c = λ at_end.
    let kept = c.rounds.invariant in
    let last = c.turn.new.self in
    let there : comes_at_end last.wanted ≡ true = ap comes_at_end (c.turn.ensures.wanted ∙ kept.wanted) ∙ at_end in
    let nothing = nothing_next kept.told.0 last there (c.in_ok-turn.ensures.told kept.told.0 kept.told.2) in
    ((c.write.ensures.idle nothing).0 ∙ (kept.idle at_end).0, λ write. absurd (let impossible = write in cc))

pub rounds-preserved : goal.rounds-preserved
rounds-preserved g c =
    let old = c.args.self.now in
    let mid = c.rounds.self in
    let last = c.turn.new.self in
    let a = all_in old.stream (g.R.Read.remaining c.args.reader.now) in
    let b = all_in mid.stream (g.R.Read.remaining c.rounds.reader) in
    let d = all_in last.stream (g.R.Read.remaining c.turn.new.reader) in
    let kept = c.rounds.invariant in
    let same : c.stuck_at.new.self ≡ behind last = c.stuck_at.ensures.same ∙ c.in_ok-write.ensures.same in
    let led = leads_on old.config (4294967295 - old.round) (4294967295 - mid.round) (4294967295 - last.round) old mid last a b d kept.leads kept.config c.in_ok-turn.ensures.leads in
    let told = told_written mid last (g.W.Write.contents c.args.writer.now) (g.W.Write.contents c.rounds.writer) (g.W.Write.contents c.write.new.writer) kept.told c.in_ok-turn.ensures.told c.in_ok-write.ensures.written in
    record {
      ahead = subst (λ (r : Replay). IsAhead r.stream) (sym same) c.in_ok-turn.ensures.ahead;
      leads = subst (λ (r : Replay). Carries (λ all next. LeadsAlike old.config (4294967295 - old.round) (4294967295 - r.round) old r all next) a (all_in r.stream (g.R.Read.remaining c.turn.new.reader))) (sym same) (led_written old.config (4294967295 - old.round) (4294967295 - last.round) old last a d led);
      config = ap (λ (r : Replay). r.config) same ∙ c.turn.ensures.config ∙ kept.config;
      wanted = ap (λ (r : Replay). r.wanted) same ∙ c.turn.ensures.wanted ∙ kept.wanted;
      told = subst (λ (r : Replay). HasTold r (g.W.Write.contents c.args.writer.now) (g.W.Write.contents c.write.new.writer)) (sym same) told;
      idle = λ at_end.
          let there : comes_at_end last.wanted ≡ true = ap comes_at_end (c.turn.ensures.wanted ∙ kept.wanted) ∙ at_end in
          let nothing = nothing_next kept.told.0 last there (c.in_ok-turn.ensures.told kept.told.0 kept.told.2) in
          ((c.write.ensures.idle nothing).0 ∙ (kept.idle at_end).0, ap (λ (r : Replay). r.text) same);
    }

pub rounds-init : goal.rounds-init
rounds-init g c = record {
  ahead = c.requires.ahead;
  leads = carries_same (λ all next. LeadsAlike c.args.self.now.config (4294967295 - c.args.self.now.round) (4294967295 - c.args.self.now.round) c.args.self.now c.args.self.now all next) (all_in c.args.self.now.stream (g.R.Read.remaining c.args.reader.now)) (all_in c.args.self.now.stream (g.R.Read.remaining c.args.reader.now))
      (same_itself (all_in c.args.self.now.stream (g.R.Read.remaining c.args.reader.now))) (λ all. record { requests = refl; run = refl; many = 0; turns = refl });
  config = refl;
  wanted = refl;
  told = ([], Appends-nil (g.W.Write.contents c.args.writer.now), c.requires.told);
  idle = λ at_end. (refl, sym (c.requires.told) ∙ said_at_end c.args.self.now.wanted c.args.self.now.ledger.served (commands_of c.args.self.now.wanted (state_of c.args.self.now.world)) at_end);
}

pub returns-clause-ok : goal.returns-clause-ok
returns-clause-ok g c =
    let old = c.args.self.now in
    let last = c.rounds.self in
    let kept = c.rounds.invariant in
    run_over old.config (4294967295 - old.round) (4294967295 - last.round) old last (all_in old.stream (g.R.Read.remaining c.args.reader.now)) (g.R.Read.remaining c.rounds.reader) kept.leads kept.ahead c.is_over.ensures.sized (sym c.is_over.ensures.over ∙ c.rounds-test.false)
