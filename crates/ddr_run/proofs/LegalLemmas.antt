-- The verdicts on the traces of a system that was closed: each is that the trace is legal.
use Rattle.std.proofs.Common.{◌≡◌, ℕ, zero, suc, Bool, true, false, List, [], ◌∷◌, ◌+◌, map, get_or, Option, Some, None, is_none, slice_get, All, refl, sym, ap, subst, ◌∙◌, arith}
use Rattle.std.proofs.lemmas.Bool.{false≢true}
use Rattle.std.proofs.lemmas.List.Sorted.{All-permutation}
use Rattle.std.proofs.lemmas.Option.{slice_get-get_or}
use Rattle.ddr_timing.specs.declared.config.Config.{Config}
use Rattle.ddr_trace.specs.declared.checker.Fault as checker
use Rattle.ddr_trace.specs.Legality.{IsLegal, IsRefreshed, breaks_at}
use Rattle.ddr_trace.specs.Rules.{is_on_commands}
use Rattle.ddr_trace.specs.Traces.{Recorded}
use Rattle.ddr_trace.proofs.LowestLemmas.{lowest_passes}
use Rattle.ddr_channel.specs.State.{State}
use Rattle.ddr_channel.proofs.ListLemmas.{All-at}
use Rattle.ddr_workers.specs.Closing.{AreMatched, IsClosed, Left}
use Rattle.ddr_workers.specs.Judged.{IsJudged}
use Rattle.ddr_workers.specs.Open.{IsOpened}
use Rattle.ddr_workers.specs.Port.{PortState, PortEnded}
use Rattle.ddr_workers.specs.Worker.{WorkerState, WorkerEnded, IsEndOf, IsWorkDone}
use Rattle.ddr_run.specs.declared.run.TheConstants.{RUN}
use Rattle.ddr_run.specs.Outcome.{AreVerdicts, are_legal, channel_lines}
use Rattle.ddr_text.specs.Check.{IsVerdict}

-- no rule is broken in the trace
abbrev IsRight : Config → Recorded → Type 0
IsRight config t = IsLegal config t.start t.end t.entries × IsRefreshed config t.start t.end t.entries

none_found : (config : Config) (t : Recorded) (fault : Option checker.Fault) → IsRight config t → IsVerdict config t fault → is_none fault ≡ true
none_found config t None right verdict = refl
none_found config t (Some f) right verdict = absurd (by_kind (is_on_commands f.rule) refl)
  where
    broken : breaks_at config t.start t.end t.entries f.place f.rule ≡ true
    broken = lowest_passes (breaks_at config t.start t.end t.entries f.place) f.rule verdict.lowest

    by_kind : (on : Bool) → is_on_commands f.rule ≡ on → ⊥
    by_kind true on = false≢true (sym (right.0 f.place f.rule on) ∙ broken)
    by_kind false on = false≢true (sym (right.1 f.place f.rule on) ∙ broken)

-- so all verdicts are that a trace is legal
all_legal : (config : Config) (channel : ℕ) (traces : List Recorded) (text : List ℕ) (legal : Bool)
    → ((c : ℕ) (t : Recorded) → slice_get traces c ≡ Some t → IsRight config t) → AreVerdicts config channel traces text legal → legal ≡ true
all_legal config _ _ _ _ right (AreVerdicts.none channel) = refl
all_legal config _ _ _ _ right (AreVerdicts.more channel trace traces verdict text legal first rest) =
    rw (none_found config trace verdict (right 0 trace refl) first)
    (all_legal config (channel + 1) traces text legal (λ c t is. right (suc c) t is) rest)

-- each worker ends with the configuration that the system was opened with
ends_config : (config : Config) (workers : List WorkerState) (ended : List WorkerEnded) → ((c : ℕ) (w : WorkerState) → slice_get workers c ≡ Some w → w.channel.config ≡ config)
    → AreMatched IsEndOf workers ended → (c : ℕ) (e : WorkerEnded) → slice_get ended c ≡ Some e → e.config ≡ config
ends_config config (w ∷ workers) (e ∷ ended) of_config matched zero f is =
    let same : e ≡ f = cc in
    ap (λ (x : WorkerEnded). x.config) (sym same) ∙ matched.0.config ∙ of_config 0 w refl
ends_config config (w ∷ workers) (e ∷ ended) of_config matched (suc c) f is = ends_config config workers ended (λ n x there. of_config (suc n) x there) matched.1 c f is
ends_config config [] [] of_config matched c f is = cc
ends_config config [] (e ∷ ended) of_config matched c f is = absurd matched
ends_config config (w ∷ workers) [] of_config matched c f is = cc

each_of : {X : Type 0} (P : X → Type 0) (xs : List X) → ((i : ℕ) (x : X) → slice_get xs i ≡ Some x → P x) → All P xs
each_of P xs told i d below = told i (get_or xs i d) (slice_get-get_or xs i d below)

traces_are_right : (config : Config) (workers : List WorkerEnded) → All (λ e. e.config ≡ config) workers
    → ((c : ℕ) (w : WorkerEnded) → slice_get workers c ≡ Some w → IsWorkDone w.config w)
    → (c : ℕ) (t : Recorded) → slice_get (map (λ w. w.trace) workers) c ≡ Some t → IsRight config t
traces_are_right config (w ∷ workers) of_config done zero t is =
    let same : w.trace ≡ t = cc in
    let own : w.config ≡ config = All-at (λ (e : WorkerEnded). e.config ≡ config) (w ∷ workers) 0 w of_config refl in
    let work = done 0 w refl in
    subst (λ (x : Recorded). IsRight config x) same (subst (λ (g : Config). IsRight g w.trace) own (work.legal, work.refreshed))
traces_are_right config (w ∷ workers) of_config done (suc c) t is =
    traces_are_right config workers (λ n e below. of_config (suc n) e (omega arith)) (λ n e there. done (suc n) e there) c t is
traces_are_right config [] of_config done c t is = cc

-- what a judge says of a trace is a verdict on it
verdict_by : (config : Config) (t : Recorded) (fault : Option checker.Fault) → IsJudged config t fault → IsVerdict config t fault
verdict_by config t None judged = judged.legal refl
verdict_by config t (Some f) judged = judged.first

all_judged : (config : Config) (channel : ℕ) (workers : List WorkerEnded) → All (λ e. e.config ≡ config) workers
    → ((c : ℕ) (w : WorkerEnded) → slice_get workers c ≡ Some w → IsJudged w.config w.trace w.fault)
    → AreVerdicts config channel (map (λ w. w.trace) workers) (channel_lines channel (map (λ w. w.fault) workers)) (are_legal (map (λ w. w.fault) workers))
all_judged config channel [] of_config judged = AreVerdicts.none channel
all_judged config channel (w ∷ workers) of_config judged =
    let own : w.config ≡ config = All-at (λ (e : WorkerEnded). e.config ≡ config) (w ∷ workers) 0 w of_config refl in
    let here : IsJudged config w.trace w.fault = subst (λ (g : Config). IsJudged g w.trace w.fault) own (judged 0 w refl) in
    AreVerdicts.more channel w.trace (map (λ (x : WorkerEnded). x.trace) workers) w.fault (channel_lines (channel + 1) (map (λ (x : WorkerEnded). x.fault) workers)) (are_legal (map (λ (x : WorkerEnded). x.fault) workers))
    (verdict_by config w.trace w.fault here)
    (all_judged config (channel + 1) workers (λ n e below. of_config (suc n) e (omega (arith, below))) (λ n e there. judged (suc n) e there))

module _ (config : Config) (ports : List PortState) (workers : List WorkerState) (port_ends : List PortEnded) (ended : List WorkerEnded) (left : Left) (system : IsOpened config RUN ports workers)
    (matched : AreMatched IsEndOf workers ended) (closed : IsClosed RUN port_ends ended left) where
  own_config : All (λ (e : WorkerEnded). e.config ≡ config) closed.by_channel
  own_config =
      let own : (c : ℕ) (w : WorkerState) → slice_get workers c ≡ Some w → w.channel.config ≡ config = λ c w is. ap (λ (s : State). s.config) (system.worker c w is).channel in
      let each : All (λ (e : WorkerEnded). e.config ≡ config) ended = each_of (λ (e : WorkerEnded). e.config ≡ config) ended (ends_config config workers ended own matched) in
      All-permutation (λ (e : WorkerEnded). e.config ≡ config) ended closed.by_channel closed.workers_are each

  -- the lines that are written are verdicts on the traces, by what the judges say of them
  pub closed_judged : AreVerdicts config 0 (map (λ (w : WorkerEnded). w.trace) closed.by_channel) (channel_lines 0 left.faults) (are_legal left.faults)
  closed_judged =
      subst (λ faults. AreVerdicts config 0 (map (λ (w : WorkerEnded). w.trace) closed.by_channel) (channel_lines 0 faults) (are_legal faults)) (sym closed.emptied.faults)
      (all_judged config 0 closed.by_channel own_config closed.emptied.judged)

  -- what a closed system leaves is right, and so they say
  pub closed_legal : (text : List ℕ) (legal : Bool) → AreVerdicts config 0 (map (λ (w : WorkerEnded). w.trace) closed.by_channel) text legal → legal ≡ true
  closed_legal text legal verdicts =
      all_legal config 0 (map (λ (w : WorkerEnded). w.trace) closed.by_channel) text legal (traces_are_right config closed.by_channel own_config closed.emptied.work) verdicts
