-- What is told of the run which the requests of the body come to, and what was written of it.
use Rattle.std.proofs.Common.{◌≡◌, Bool, true, false, Result, Ok, Err, IfErr, IfSome, IsTrue, inl, inr, ap, refl, sym, subst, ◌∙◌}
use Rattle.std.specs.Prelude.{◌⊎◌}
use Rattle.std.proofs.lemmas.Result.{err_from_is_err_and}
use Rattle.ddr_capture.specs.Feed.{left}
use Rattle.ddr_stream.specs.Waiting.{Waiting, all_in}
use Rattle.ddr_text.specs.declared.fault.Fault.{Fault}
use Rattle.ddr_text.specs.declared.fault.Fault.TheVariants as faults
use Rattle.ddr_text.specs.Sink.{write_fault}
use Rattle.ddr_timing.specs.declared.config.Config.{Config}
use Rattle.ddr_replay.specs.Finished.{IsUnfinished}
use Rattle.ddr_replay.specs.Replays.{IsReported, IsWritten}
use Rattle.ddr_replay.specs.Runs.{begun}
use Rattle.ddr_replay.specs.View.{Replay, run_of}
use Rattle.ddr_replay.specs.declared.taken.Taking.{Taking}
use Rattle.ddr_replay.specs.declared.wanted.Wanted.{Wanted}
use Rattle.ddr_replay.proofs.RunLemmas.{nothing_next}
use Rattle.ddr_replay.proofs.replay.replay_body.Goals.{in-Ok, in-Err}
use Rattle.ddr_replay.specs.Taken.{IsTaken}
use Rattle.ddr_replay.specs.Told.{comes_at_end, keeps_served}
use Rattle.ddr_replay.proofs.ReplayLemmas.{HasBegun, cut_short, each, each_fault_with, each_with, end_comes_later, end_reads_nothing, finished_begun, finished_said, no_channel, nothing_written, run_comes_later, run_ended, taken_said}
use Rattle.ddr_replay.proofs.replay.replay_body.Goals as goal

pub returns-then-names_no_channel-clause-said : goal.returns-then-names_no_channel-clause-said
returns-then-names_no_channel-clause-said g c =
    each (left c.args.feed (g.R.Read.remaining c.args.reader.now)) (λ body. no_channel c.args.config.now c.args.taking c.args.told body (sym c.names_no_channel.ensures ∙ c.if-names_no_channel.true))

pub returns-then-names_no_channel-clause-begun : goal.returns-then-names_no_channel-clause-begun
returns-then-names_no_channel-clause-begun g c =
    each (left c.args.feed (g.R.Read.remaining c.args.reader.now)) (λ body. nothing_written c.args.config.now c.args.taking c.args.told body faults.TraceNoSuch (g.W.Write.contents c.args.writer.now))

pub returns-in_err-stream-clause-said : goal.returns-in_err-stream-clause-said
returns-in_err-stream-clause-said g c =
    let p = err_from_is_err_and c.from_residual.result c.from_residual.ensures.1 in
    let some = sym c.names_no_channel.ensures ∙ c.if-names_no_channel.false in
    rw (p.1, p.2) (each_with (left c.args.feed (g.R.Read.remaining c.args.reader.now)) c.in_err-stream.ensures.fault (λ body is. taken_said c.args.config.now c.args.taking c.args.told body c.in_err-stream.field-0.0 some is))

pub returns-in_err-stream-clause-begun : goal.returns-in_err-stream-clause-begun
returns-in_err-stream-clause-begun g c =
    let p = err_from_is_err_and c.from_residual.result c.from_residual.ensures.1 in
    rw (p.1, p.2) (each (left c.args.feed (g.R.Read.remaining c.args.reader.now)) (λ body. nothing_written c.args.config.now c.args.taking c.args.told body c.in_err-stream.field-0.0 (g.W.Write.contents c.args.writer.now)))

pub returns-in_err-replaying-clause-said : goal.returns-in_err-replaying-clause-said
returns-in_err-replaying-clause-said g c =
    let p = err_from_is_err_and c.from_residual-in_err-replaying.result c.from_residual-in_err-replaying.ensures.1 in
    rw (p.1, p.2) (each (left c.args.feed (g.R.Read.remaining c.args.reader.now)) (λ body. tt))

pub returns-in_err-replaying-clause-begun : goal.returns-in_err-replaying-clause-begun
returns-in_err-replaying-clause-begun g c =
    let p = err_from_is_err_and c.from_residual-in_err-replaying.result c.from_residual-in_err-replaying.ensures.1 in
    rw (p.1, p.2) (each (left c.args.feed (g.R.Read.remaining c.args.reader.now)) (λ body. nothing_written c.args.config.now c.args.taking c.args.told body faults.OutOfMemory (g.W.Write.contents c.args.writer.now)))

-- how the run began
abbrev Has : Config → Taking → Wanted → Replay → Type 0
Has config taking told began = HasBegun config (keeps_served told) taking.order began

has_begun : (config : Config) (taking : Taking) (told : Wanted) (began : Replay) (stream : Waiting) → began.config ≡ config → run_of began ≡ begun config (keeps_served told) taking.order stream.queues → began.stream ≡ stream → Has config taking told began
has_begun config taking told began stream same run streams = record {
  config = same;
  run = run ∙ ap (λ (w : Waiting). begun config (keeps_served told) taking.order w.queues) (sym streams);
}

err_with : (P Q : Fault → Type 0) (r : Result (Unit {0}) Fault) → IfErr r P → ((fault : Fault) → P fault → Q fault) → IfErr r Q
err_with P Q (Ok v) is on = tt
err_with P Q (Err fault) is on = on fault is

pub returns-clause-said : goal.returns-clause-said
returns-clause-said g c =
    let config = c.args.config.now in
    let taking = c.args.taking in
    let told = c.args.told in
    let began = c.in_ok-replaying.replaying in
    let front = left c.args.feed (g.R.Read.remaining c.args.reader.now) in
    let more = g.R.Read.remaining c.taken_of.new.reader in
    let all = all_in began.stream more in
    let last = c.run.new.self in
    let some = sym c.names_no_channel.ensures ∙ c.if-names_no_channel.false in
    let opened = c.in_ok-replaying.ensures in
    let has = has_begun config taking told began c.in_ok-stream.stream opened.config opened.begun opened.stream in
    let known : IfSome front (λ body. IsTaken config taking body all) = subst (λ (w : Waiting). IfSome front (λ body. IsTaken config taking body (all_in w more))) (sym opened.stream) c.in_ok-stream.ensures.said in
    let same : last.wanted ≡ told = c.run.ensures.wanted ∙ opened.wanted in
    let before = g.W.Write.contents c.args.writer.now in
    elim c.match-run.branch [
      | in-Ok w ↦
          subst (λ (r : Result (Unit {0}) Fault). IfSome front (λ body. IsReported config taking told body before (g.W.Write.contents c.match-run.writer) r)) (sym w.result-is)
          (subst (λ x. IfSome front (λ body. IsReported config taking told body before (g.W.Write.contents x) w.finish-result.result)) (sym w.writer-is) (each_with front known (λ body taken.
          finished_said config taking told began all body last w.finish-result.result (g.W.Write.contents c.args.writer.now) (g.W.Write.contents c.run.new.writer) (g.W.Write.contents w.finish-result.new.writer) g.W.Sink.may_fail some has same w.in-Ok.ensures.ok taken w.in-Ok.ensures.told
          w.finish-result.ensures.finished w.finish-result.ensures.fault)))
      | in-Err w ↦
          subst (λ (r : Result (Unit {0}) Fault). IfSome front (λ body. IsReported config taking told body before (g.W.Write.contents c.match-run.writer) r)) (sym w.result-is) (each_with front known (λ body taken.
          run_ended config taking told began all body w.in-Err.fault (λ at_end write. (c.run.ensures.idle (ap comes_at_end opened.wanted ∙ at_end)).1 (w.in-Err.is ∙ ap (λ (f : Fault). Err f) write)) some has w.in-Err.ensures.fault taken))
    ]

pub returns-clause-begun : goal.returns-clause-begun
returns-clause-begun g c =
    let config = c.args.config.now in
    let taking = c.args.taking in
    let told = c.args.told in
    let began = c.in_ok-replaying.replaying in
    let front = left c.args.feed (g.R.Read.remaining c.args.reader.now) in
    let more = g.R.Read.remaining c.taken_of.new.reader in
    let all = all_in began.stream more in
    let last = c.run.new.self in
    let opened = c.in_ok-replaying.ensures in
    let has = has_begun config taking told began c.in_ok-stream.stream opened.config opened.begun opened.stream in
    let known : IfSome front (λ body. IsTaken config taking body all) = subst (λ (w : Waiting). IfSome front (λ body. IsTaken config taking body (all_in w more))) (sym opened.stream) c.in_ok-stream.ensures.said in
    let same : last.wanted ≡ told = c.run.ensures.wanted ∙ opened.wanted in
    let before = g.W.Write.contents c.args.writer.now in
    elim c.match-run.branch [
      | in-Ok w ↦
          let after = g.W.Write.contents w.finish-result.new.writer in
          rw (w.result-is, w.writer-is) (each_fault_with (λ body fault. IsWritten config taking told body fault before after) (λ body. IsTaken config taking body all) front w.finish-result.result known (λ body taken.
          finished_begun config taking told began all body last w.finish-result.result before (g.W.Write.contents c.run.new.writer) after has same w.in-Ok.ensures.ok taken w.in-Ok.ensures.told w.finish-result.ensures.begun))
      | in-Err w ↦
          rw (w.result-is, w.writer-is) (each_with front known (λ body taken.
          cut_short config taking told began all body w.in-Err.fault before (g.W.Write.contents c.run.new.writer) has opened.wanted w.in-Err.ensures.begun taken))
    ]

-- no ending fails by writing, but where that may fail
writes_by : (config : Config) (r : Replay) (may_fail : Bool) → IsUnfinished config r (write_fault may_fail) faults.Write → IsTrue may_fail
writes_by config r may_fail (inl said) = absurd said
writes_by config r true (inr is) = refl
writes_by config r false (inr is) = absurd (let impossible = is.0 in cc)

pub returns-clause-taken : goal.returns-clause-taken
returns-clause-taken g c = λ write. elim c.match-run.branch [
  | in-Ok w ↦
      writes_by c.args.config.now c.run.new.self g.W.Sink.may_fail
      (subst (λ (r : Result (Unit {0}) Fault). IfErr r (IsUnfinished c.args.config.now c.run.new.self (write_fault g.W.Sink.may_fail))) (sym w.result-is ∙ write) w.finish-result.ensures.fault)
  | in-Err w ↦ c.run.ensures.taken (w.in-Err.is ∙ sym w.result-is ∙ write)
]

pub returns-clause-idle : goal.returns-clause-idle
returns-clause-idle g c =
    let there = ap comes_at_end c.in_ok-replaying.ensures.wanted in
    elim c.match-run.branch [
      | in-Ok w ↦
          rw (w.result-is, w.writer-is) (err_with (λ fault. (w.finish-result.new.writer ≡ c.run.new.writer) ⊎ (fault ≡ write_fault g.W.Sink.may_fail)) (λ fault. comes_at_end c.args.told ≡ true → (w.finish-result.new.writer ≡ c.args.writer.now) ⊎ (fault ≡ write_fault g.W.Sink.may_fail)) w.finish-result.result w.finish-result.ensures.idle (λ fault is at_end. elim is [
            | inl same ↦ inl (same ∙ (c.run.ensures.idle (there ∙ at_end)).0)
            | inr write ↦ inr write
          ]))
      | in-Err w ↦ rw (w.result-is, w.writer-is) (λ at_end. inl (c.run.ensures.idle (there ∙ at_end)).0)
    ]

pub returns-clause-unopened : goal.returns-clause-unopened
returns-clause-unopened g c = elim c.match-run.branch [
  | in-Ok w ↦ rw (w.result-is, w.writer-is) (end_comes_later w.finish-result.result (w.finish-result.new.writer ≡ c.args.writer.now) w.finish-result.ensures.kind)
  | in-Err w ↦ rw (w.result-is, w.writer-is) (run_comes_later w.in-Err.fault (c.run.new.writer ≡ c.args.writer.now) w.in-Err.ensures.kind)
]

pub returns-clause-spared : goal.returns-clause-spared
returns-clause-spared g c = λ at_end spared.
    let there = ap comes_at_end c.in_ok-replaying.ensures.wanted ∙ at_end in
    let last = c.run.new.self in
    elim c.match-run.branch [
      | in-Ok w ↦
          let nothing = nothing_next w.in-Ok.ensures.told.0 last (ap comes_at_end c.run.ensures.wanted ∙ there) w.in-Ok.ensures.told.2 in
          ap g.W.Write.contents w.writer-is ∙ w.finish-result.ensures.spared nothing (sym w.result-is ∙ spared) ∙ ap g.W.Write.contents (c.run.ensures.idle there).0
      | in-Err w ↦ ap g.W.Write.contents w.writer-is ∙ ap g.W.Write.contents (c.run.ensures.idle there).0
    ]

pub returns-clause-sure : goal.returns-clause-sure
returns-clause-sure g c = λ read. elim c.match-run.branch [
  | in-Ok w ↦ absurd (end_reads_nothing w.finish-result.result w.finish-result.ensures.kind (sym w.result-is ∙ read))
  | in-Err w ↦ c.run.ensures.sure (w.in-Err.is ∙ sym w.result-is ∙ read)
]
