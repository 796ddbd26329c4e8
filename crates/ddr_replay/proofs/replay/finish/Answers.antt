-- What was told so far, and what stands behind it.
use Rattle.std.proofs.Common.{◌≡◌, ◌++◌, [], ℕ, List, Vec, Global, Bool, true, false, Option, Result, Ok, Err, OnOk, IfErr, inl, inr, append-nil, ap, refl, sym, subst, ◌∙◌}
use Rattle.std.proofs.KnownBytes.{Appends-nil, Appends-trans}
use Rattle.std.proofs.lemmas.Result.{err_from_is_err_and}
use Rattle.std.specs.Io.KnownBytes.{Appends}
use Rattle.ddr_text.specs.Sink.{write_fault}
use Rattle.ddr_text.specs.declared.fault.Fault.{Fault}
use Rattle.ddr_text.specs.declared.fault.Fault.TheVariants as faults
use Rattle.ddr_timing.specs.declared.config.Config.{Config}
use Rattle.ddr_stream.specs.declared.requests.Requests.{Requests}
use Rattle.ddr_replay.specs.Finished.{IsFinished, IsPartly, all_told}
use Rattle.ddr_replay.specs.Replays.{told_of}
use Rattle.ddr_replay.specs.View.{Replay, run_of, told_so_far}
use Rattle.ddr_replay.proofs.ReplayLemmas.{ending_kind}
use Rattle.ddr_replay.proofs.replay.finish.Goals as goal

-- nothing of it was written, or all
nothing_of : (next : List ℕ) (fault : Fault) (may_fail : Bool) (before after : Option (List ℕ)) → fault ≡ write_fault may_fail → (fault ≡ faults.OutOfMemory → after ≡ before) → IsPartly next fault before after
nothing_of next fault true before after is spared = inl is
nothing_of next fault false before after is spared = subst (λ (x : Option (List ℕ)). IsPartly next fault before x) (sym (spared is)) (inr ([], next, Appends-nil before, refl))

all_of : (next : List ℕ) (r : Result (Unit {0}) Fault) (may_fail : Bool) (before middle after : Option (List ℕ)) → Appends before middle next → IfErr r (λ fault. fault ≡ write_fault may_fail) → (r ≡ Err faults.OutOfMemory → after ≡ middle) → IfErr r (λ fault. IsPartly next fault before after)
all_of next (Ok v) may_fail before middle after written is spared = tt
all_of next (Err fault) true before middle after written is spared = inl is
all_of next (Err fault) false before middle after written is spared =
    subst (λ (x : Option (List ℕ)). IsPartly next fault before x) (sym (spared (ap (λ (f : Fault). Err f) is))) (inr (next, [], written, sym (append-nil next)))

finished : (config : Config) (r : Replay) (ending : List ℕ) (result : Result (Unit {0}) Fault) (before middle after : Option (List ℕ)) → all_told config r ≡ Ok (told_so_far r ++ ending) → Appends before middle r.text → OnOk result (Appends middle after ending) → OnOk result (IsFinished config r before after)
finished config r ending (Ok v) before middle after said first second = (ending, said, Appends-trans before middle after r.text ending first second)
finished config r ending (Err fault) before middle after said first second = tt

pub returns-in_err-write-clause-begun : goal.returns-in_err-write-clause-begun
returns-in_err-write-clause-begun g c =
    let p = err_from_is_err_and c.from_residual-in_err-write.result c.from_residual-in_err-write.ensures.1 in
    rw (p.1, p.2) (nothing_of c.args.replaying.now.text c.in_err-write.field-0.0 g.W.Sink.may_fail (g.W.Write.contents c.args.writer.now) (g.W.Write.contents c.write.new.writer) c.in_err-write.ensures.refused (λ spared. c.write.ensures.spared (c.in_err-write.was ∙ ap (λ (f : Fault). Err f) spared)))

pub returns-clause-finished : goal.returns-clause-finished
returns-clause-finished g c =
    let r = c.args.replaying.now in
    let said : all_told c.args.config.now r ≡ Ok (told_so_far r ++ c.in_ok-ending.ending.items) =
    subst (λ (asked : List Requests). told_of c.args.config.now r.wanted asked (run_of r) ≡ Ok (told_so_far r ++ c.in_ok-ending.ending.items)) c.requests.ensures c.in_ok-ending.ensures in
    finished c.args.config.now r c.in_ok-ending.ending.items c.write_bytes.result (g.W.Write.contents c.args.writer.now) (g.W.Write.contents c.write.new.writer) (g.W.Write.contents c.write_bytes.new.writer) said c.in_ok-write.ensures.written
    (subst (λ (bytes : List ℕ). OnOk c.write_bytes.result (Appends (g.W.Write.contents c.write.new.writer) (g.W.Write.contents c.write_bytes.new.writer) bytes)) c.as_slice.ensures.value c.write_bytes.ensures.written)

pub returns-clause-begun : goal.returns-clause-begun
returns-clause-begun g c =
    all_of c.args.replaying.now.text c.write_bytes.result g.W.Sink.may_fail (g.W.Write.contents c.args.writer.now) (g.W.Write.contents c.write.new.writer) (g.W.Write.contents c.write_bytes.new.writer) c.in_ok-write.ensures.written c.write_bytes.ensures.refused c.write_bytes.ensures.spared

pub returns-in_err-ending-clause-kind : goal.returns-in_err-ending-clause-kind
returns-in_err-ending-clause-kind g c =
    let r = c.args.replaying.now in
    let p = err_from_is_err_and c.from_residual.result c.from_residual.ensures.1 in
    rw (p.1, p.2) (ending_kind {X = Vec ℕ Global} (λ v. told_so_far r ++ v.items) c.args.config.now r.wanted c.requests.result.now (run_of r) c.in_err-ending.field-0.0 c.in_err-ending.ensures)
