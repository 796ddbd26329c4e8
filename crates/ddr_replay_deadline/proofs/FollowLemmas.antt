-- What every record of events keeps: the calls of each channel, the clocks of its acceptances, and when requests were served.
use Rattle.std.proofs.Common.{◌≡◌, ◌≤◌, ◌<◌, ◌+◌, ℕ, List, [], ◌∷◌, ◌++◌, OnOk, append-nil, append_assoc, length, refl, sym, ap, subst, ◌∙◌}
use Rattle.std.specs.List.{range_with_len, fold}
use Rattle.std.proofs.lemmas.List.{length-append}
use Rattle.ddr_timing.specs.declared.units.TheConstants.{CLOCK_STOP}
use Rattle.ddr_channel.specs.History.{Call}
use Rattle.ddr_channel.proofs.ListLemmas.{at_map}
use Rattle.ddr_world.specs.History.{Opening, Answered, History, after, begun, run}
use Rattle.ddr_world.specs.State.{PortSide, opened_port}
use Rattle.ddr_world.proofs.CoreKeeps.{CoreKeeps}
use Rattle.ddr_world.proofs.CoreRuns.{run_keeps}
use Rattle.ddr_core_deadline.specs.InCore.{FindsAllTakenIn, TakesAllIn, call_of_answer, calls_of}
use Rattle.ddr_core_deadline.proofs.EventLemmas.{IsMadeIn, answer_made, begun_made}
use Rattle.ddr_replay_deadline.specs.Waits.{accepted_by_answer, acceptances}
use Rattle.ddr_replay_deadline.proofs.AdmitLemmas.{answer_counted, there_is}
use Rattle.ddr_replay_deadline.proofs.GrowthLemmas.{channel_at}
use Rattle.ddr_replay_deadline.proofs.OrderLemmas.{IsLate, late_answer, late_begun}
use Rattle.ddr_replay_deadline.proofs.ServiceLemmas.{AreServedIn, IsServedSide, answer_serves}

pub record IsFollowed (o : Opening) (h : History) (calls : ℕ → List Call) (came : ℕ → List ℕ) : Type 0 where
  pub made : (c : ℕ) → IsMadeIn o c (calls c) h
  pub counted : (c : ℕ) → c < o.config.geometry.channels → length (came c) ≡ length (h.accepted c)
  pub late : (c : ℕ) → c < o.config.geometry.channels → IsLate (came c) (channel_at o (calls c))
  pub served : AreServedIn o h calls

followed_then : (o : Opening) (h : History) (calls : ℕ → List Call) (came : ℕ → List ℕ) (a : Answered) → CoreKeeps o h → OnOk a.answer (FindsAllTakenIn h.state a.event) → IsFollowed o h calls came
    → IsFollowed o (after h a) (λ c. calls c ++ call_of_answer h.state c a.event a.answer) (λ c. came c ++ accepted_by_answer h.state c a.event a.answer)
followed_then o h calls came a core finds k = record {
  made = λ c. answer_made o c h (calls c) a.event a.answer core finds (k.made c);
  counted = λ c inside.
      let here = there_is o c h core inside in
      length-append (came c) (accepted_by_answer h.state c a.event a.answer) ∙ ap (λ n. n + length (accepted_by_answer h.state c a.event a.answer)) (k.counted c inside) ∙ sym (answer_counted c h here.0 a.event a.answer here.1);
  late = λ c inside.
      let here = there_is o c h core inside in
      late_answer o c h (came c) (calls c) here.0 a.event a.answer core (k.made c) here.1 (k.counted c inside) (k.late c inside);
  served = answer_serves o h calls a.event a.answer core k.made k.served;
}

events_followed : (o : Opening) (h : History) (calls : ℕ → List Call) (came : ℕ → List ℕ) (events : List Answered) → ((later : List Answered) → CoreKeeps o (fold after h later)) → TakesAllIn h events → IsFollowed o h calls came
    → IsFollowed o (fold after h events) (λ c. calls c ++ calls_of c h events) (λ c. came c ++ acceptances c h events)
events_followed o h calls came [] core takes k =
    let same_calls : (λ c. calls c ++ []) ≡ calls = λ i c. append-nil (calls c) i in
    let same_came : (λ c. came c ++ []) ≡ came = λ i c. append-nil (came c) i in
    subst (λ (f : ℕ → List ℕ). IsFollowed o h (λ c. calls c ++ []) f) (sym same_came) (subst (λ (f : ℕ → List Call). IsFollowed o h f came) (sym same_calls) k)
events_followed o h calls came (a ∷ later) core takes k =
    let next = fold after (after h a) later in
    let same_calls : (λ c. (calls c ++ call_of_answer h.state c a.event a.answer) ++ calls_of c (after h a) later) ≡ (λ c. calls c ++ (call_of_answer h.state c a.event a.answer ++ calls_of c (after h a) later)) =
    λ i c. append_assoc (calls c) (call_of_answer h.state c a.event a.answer) (calls_of c (after h a) later) i in
    let same_came : (λ c. (came c ++ accepted_by_answer h.state c a.event a.answer) ++ acceptances c (after h a) later) ≡ (λ c. came c ++ (accepted_by_answer h.state c a.event a.answer ++ acceptances c (after h a) later)) =
    λ i c. append_assoc (came c) (accepted_by_answer h.state c a.event a.answer) (acceptances c (after h a) later) i in
    subst (λ (f : ℕ → List ℕ). IsFollowed o next (λ c. calls c ++ (call_of_answer h.state c a.event a.answer ++ calls_of c (after h a) later)) f) same_came
    (subst (λ (f : ℕ → List Call). IsFollowed o next f (λ c. (came c ++ accepted_by_answer h.state c a.event a.answer) ++ acceptances c (after h a) later)) same_calls
    (events_followed o (after h a) (λ c. calls c ++ call_of_answer h.state c a.event a.answer) (λ c. came c ++ accepted_by_answer h.state c a.event a.answer) later (λ more. core (a ∷ more)) takes.1
    (followed_then o h calls came a (core []) takes.0 k)))

opened_side : (o : Opening) (side : PortSide) (n : ℕ) → o.number ≤ CLOCK_STOP → opened_port o.config o.number n ≡ side → IsServedSide o [] (λ c. []) 0 side
opened_side o side n few is = subst (IsServedSide o [] (λ c. []) 0) is (record {
  queue = λ j d at. absurd (let impossible = at in cc);
  filled = λ j e v at told. absurd (let impossible = at in cc);
  few = few;
})

begun_followed : (o : Opening) → o.number ≤ CLOCK_STOP → IsFollowed o (begun o) (λ c. []) (λ c. [])
begun_followed o few = record {
  made = begun_made o;
  counted = λ c inside. refl;
  late = λ c inside. late_begun o;
  served = λ p side at. (let found = at_map (opened_port o.config o.number) (range_with_len 0 o.config.limits.ports) p side at in opened_side o side found.0 few found.2);
}

-- by the events since the opening
abbrev pub IsFollowedBy : Opening → List Answered → Type 0
IsFollowedBy o events = IsFollowed o (run o events) (λ c. calls_of c (begun o) events) (λ c. acceptances c (begun o) events)

pub run_followed : (o : Opening) (events : List Answered) → o.number ≤ CLOCK_STOP → TakesAllIn (begun o) events → IsFollowedBy o events
run_followed o events few takes = events_followed o (begun o) (λ c. []) (λ c. []) events (run_keeps o) takes (begun_followed o few)
