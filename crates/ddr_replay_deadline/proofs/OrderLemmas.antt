-- The clock at which a channel's queue accepts a request comes no later than the cycle of its column command.
use Rattle.std.proofs.Common.{◌≡◌, ◌≤◌, ◌<◌, ◌+◌, ℕ, zero, suc, Bool, true, false, cond, eqb, List, [], ◌∷◌, ◌++◌, Option, Some, Result, Ok, Err, append-nil, length, sym, ap, subst, ◌∙◌, ◌⊎◌, inl, inr, arith}
use Rattle.std.specs.List.{AllByRecursion, slice_get, fold}
use Rattle.std.specs.Option.{option_map_or}
use Rattle.std.proofs.lemmas.List.{length-append}
use Rattle.std.proofs.lemmas.List.Sums.{fold-append}
use Rattle.ddr_timing.specs.declared.units.TheConstants.{CLOCK_STOP}
use Rattle.ddr_address_map.specs.Requests.{Request}
use Rattle.ddr_arbiter.specs.declared.choice.Choice.{Choice}
use Rattle.ddr_arbiter.specs.declared.choice.Choice.TheVariants as choice
use Rattle.ddr_channel.specs.Choice.{choice_of}
use Rattle.ddr_channel.specs.Cycle.{after_cycle, at_choice}
use Rattle.ddr_channel.specs.History as channel
use Rattle.ddr_channel.specs.History.{Call, Owner, after_call, with_owner}
use Rattle.ddr_channel.specs.State as channel_state
use Rattle.ddr_channel.specs.State.{after_admit, is_queue_full}
use Rattle.ddr_channel.proofs.HistoryLemmas.{kept_run}
use Rattle.ddr_channel.proofs.PlaceLemmas.{pushed}
use Rattle.ddr_world.specs.declared.event.Outcome.{Outcome}
use Rattle.ddr_world.specs.declared.event.Refusal.{Refusal}
use Rattle.ddr_world.specs.Events.{Event, Submit, Take, Cycle, Deliver, Collect, Release, End}
use Rattle.ddr_world.specs.History.{Opening, History}
use Rattle.ddr_world.specs.State.{ChannelSide, State}
use Rattle.ddr_world.specs.Step.{Step, step}
use Rattle.ddr_world.proofs.CoreKeeps.{CoreKeeps, requests_in}
use Rattle.ddr_core_deadline.specs.InCore.{call_of_answer, call_of_step}
use Rattle.ddr_core_deadline.proofs.EventLemmas.{IsMadeIn}
use Rattle.ddr_replay_deadline.specs.Waits.{accepted_by_answer, accepted_by_step, clock_at, goes_to}
use Rattle.ddr_replay_deadline.proofs.ClockLemmas.{IsUntil, until_push}
use Rattle.ddr_replay_deadline.proofs.GrowthLemmas.{channel_at, call_now}

pub at_all : {X : Type 0} (P : X → Type 0) (xs : List X) (i : ℕ) (x : X) → AllByRecursion P xs → slice_get xs i ≡ Some x → P x
at_all P [] i x all at = absurd (let impossible = at in cc)
at_all P (y ∷ ys) zero x all at = let same : y ≡ x = cc in subst P same all.0
at_all P (y ∷ ys) (suc i) x all at = at_all P ys i x all.1 at

-- each request came by now, and no later than its column command
pub record IsLate (came : List ℕ) (h : channel.History) : Type 0 where
  pub until : IsUntil came h.state.now
  pub late : (column clock : ℕ) (owner : Owner) → slice_get h.owners column ≡ Some owner → slice_get came owner.place ≡ Some clock → clock ≤ owner.cycle

-- one call more

-- the owner was one before, or its command comes now
abbrev WasOwner : channel.History → ℕ → Owner → Type 0
WasOwner h column owner = (slice_get h.owners column ≡ Some owner) ⊎ (h.state.now ≡ owner.cycle)

owner_pushed : (h : channel.History) (column place : ℕ) (auto : Bool) (owner : Owner) → slice_get (h.owners ++ record { place = place; cycle = h.state.now; auto = auto } ∷ []) column ≡ Some owner → WasOwner h column owner
owner_pushed h column place auto owner at = elim (pushed h.owners (record { place = place; cycle = h.state.now; auto = auto }) column owner at) [
  | inl old ↦ inl old.1
  | inr new ↦ inr (ap (λ (o : Owner). o.cycle) new.1)
]

owner_was : (c : Choice) (h : channel.History) (column : ℕ) (owner : Owner) → slice_get (with_owner c h).owners column ≡ Some owner → WasOwner h column owner
owner_was choice.Nothing h column owner at = inl at
owner_was (choice.Refresh rank) h column owner at = inl at
owner_was (choice.PreAll rank) h column owner at = inl at
owner_was (choice.Act place) h column owner at = inl at
owner_was (choice.Pre place) h column owner at = inl at
owner_was (choice.Column place) h column owner at = owner_pushed h column _ false owner at
owner_was (choice.ColumnAuto place) h column owner at = owner_pushed h column _ true owner at

call_owner : (h : channel.History) (call : Call) (column : ℕ) (owner : Owner) → slice_get (after_call h call).owners column ≡ Some owner → WasOwner h column owner
call_owner h (channel.Admit r) column owner at = by_full (is_queue_full h.state r.echo.kind) at
  where
    by_full : (b : Bool) → slice_get (cond b h (record h { state = after_admit r h.state; accepted = h.accepted ++ r ∷ []; waiting = h.waiting ++ length h.accepted ∷ [] })).owners column ≡ Some owner → WasOwner h column owner
    by_full true at = inl at
    by_full false at = inl at
call_owner h channel.Cycle column owner at = by_stop (eqb h.state.now CLOCK_STOP) at
  where
    by_stop : (b : Bool) → slice_get (cond b h (record (with_owner (choice_of (at_choice h.state)) h) { state = after_cycle h.state })).owners column ≡ Some owner → WasOwner h column owner
    by_stop true at = inl at
    by_stop false at = owner_was (choice_of (at_choice h.state)) h column owner at
call_owner h channel.Pop column owner at = inl at

late_call : (came : List ℕ) (h : channel.History) (call : Call) → IsLate came h → IsLate came (after_call h call)
late_call came h call k = record {
  until = λ i x at. omega (arith, k.until i x at, call_now h call);
  late = λ column clock owner at here. elim (call_owner h call column owner at) [
    | inl old ↦ k.late column clock owner old here
    | inr new ↦ omega (arith, k.until owner.place clock here, new)
  ];
}

late_calls : (came : List ℕ) (h : channel.History) (calls : List Call) → IsLate came h → IsLate came (fold after_call h calls)
late_calls came h [] k = k
late_calls came h (call ∷ later) k = late_calls came (after_call h call) later (late_call came h call k)

late_by : (o : Opening) (came : List ℕ) (calls more : List Call) → IsLate came (channel_at o calls) → IsLate (came ++ []) (channel_at o (calls ++ more))
late_by o came calls more k =
    subst (λ (cs : List ℕ). IsLate cs (channel_at o (calls ++ more))) (sym (append-nil came))
    (subst (IsLate came) (sym (fold-append after_call (channel.begun o.config o.cycle) calls more)) (late_calls came (channel_at o calls) more k))

-- one request more comes
late_come : (came : List ℕ) (h : channel.History) → IsLate came h → ((column : ℕ) (owner : Owner) → slice_get h.owners column ≡ Some owner → owner.place < length came) → IsLate (came ++ h.state.now ∷ []) h
late_come came h k placed = record {
  until = until_push came h.state.now k.until;
  late = λ column clock owner at here. elim (pushed came h.state.now owner.place clock here) [
    | inl old ↦ k.late column clock owner at old.1
    | inr new ↦ absurd (omega (arith, placed column owner at, new.0))
  ];
}

-- one event more

late_accepted : (o : Opening) (s : State) (c : ℕ) (came : List ℕ) (calls : List Call) (side : ChannelSide) (b : Bool) → slice_get s.channels c ≡ Some side → side.channel.now ≡ (channel_at o calls).state.now
    → ((column : ℕ) (owner : Owner) → slice_get (channel_at o calls).owners column ≡ Some owner → owner.place < length came) → IsLate came (channel_at o calls) → IsLate (came ++ cond b (clock_at s c) []) (channel_at o (calls ++ []))
late_accepted o s c came calls side false there now placed k = late_by o came calls [] k
late_accepted o s c came calls side true there now placed k =
    let same : clock_at s c ≡ (channel_at o calls).state.now ∷ [] = ap (λ (y : Option ChannelSide). option_map_or (λ (z : ChannelSide). z.channel.now ∷ []) y []) there ∙ ap (λ n. n ∷ []) now in
    subst (λ (cs : List ℕ). IsLate (came ++ cs) (channel_at o (calls ++ []))) (sym same)
    (subst (λ (cs : List Call). IsLate (came ++ (channel_at o calls).state.now ∷ []) (channel_at o cs)) (sym (append-nil calls)) (late_come came (channel_at o calls) k placed))

late_step : (o : Opening) (c : ℕ) (h : History) (came : List ℕ) (calls : List Call) (side : ChannelSide) (event : Event) (r : Step) → slice_get h.state.channels c ≡ Some side → side.channel.now ≡ (channel_at o calls).state.now
    → ((column : ℕ) (owner : Owner) → slice_get (channel_at o calls).owners column ≡ Some owner → owner.place < length came) → IsLate came (channel_at o calls)
    → IsLate (came ++ accepted_by_step h.state c event r) (channel_at o (calls ++ call_of_step h.state c event r))
late_step o c h came calls side event (Err cause) there now placed k = late_by o came calls [] k
late_step o c h came calls side (Submit p asked) (Ok m) there now placed k = late_accepted o h.state c came calls side (goes_to h.state c p asked) there now placed k
late_step o c h came calls side (Take t) (Ok m) there now placed k = late_by o came calls (call_of_step h.state c (Take t) (Ok m)) k
late_step o c h came calls side (Cycle t) (Ok m) there now placed k = late_by o came calls (call_of_step h.state c (Cycle t) (Ok m)) k
late_step o c h came calls side (Deliver t) (Ok m) there now placed k = late_by o came calls (call_of_step h.state c (Deliver t) (Ok m)) k
late_step o c h came calls side (Collect p) (Ok m) there now placed k = late_by o came calls [] k
late_step o c h came calls side (Release p) (Ok m) there now placed k = late_by o came calls [] k
late_step o c h came calls side (End p t) (Ok m) there now placed k = late_by o came calls [] k

-- each owner's request was accepted
owners_placed : (o : Opening) (c : ℕ) (h : History) (came : List ℕ) (calls : List Call) (side : ChannelSide) → CoreKeeps o h → IsMadeIn o c calls h → slice_get h.state.channels c ≡ Some side → length came ≡ length (h.accepted c)
    → (column : ℕ) (owner : Owner) → slice_get (channel_at o calls).owners column ≡ Some owner → owner.place < length came
owners_placed o c h came calls side core made there counted column owner at =
    let by = made side there in
    let kept = kept_run o.config o.cycle calls by.are in
    let placed : owner.place < length (channel_at o calls).accepted = at_all (λ (w : Owner). w.place < length (channel_at o calls).accepted) (channel_at o calls).owners column owner kept.keeps.placed at in
    let admitted : length (channel_at o calls).accepted ≡ length (h.admitted c) = ap (λ (rs : List Request). length rs) by.admitted_are in
    let all : length (h.admitted c) + length (requests_in side.requests) ≡ length (h.accepted c) =
    sym (length-append (h.admitted c) (requests_in side.requests)) ∙ ap (λ (rs : List Request). length rs) (core.channels c side there).accepted_are in
    omega (arith, placed, admitted, all, counted)

pub late_answer : (o : Opening) (c : ℕ) (h : History) (came : List ℕ) (calls : List Call) (side : ChannelSide) (event : Event) (answer : Result Outcome Refusal) → CoreKeeps o h → IsMadeIn o c calls h
    → slice_get h.state.channels c ≡ Some side → length came ≡ length (h.accepted c) → IsLate came (channel_at o calls)
    → IsLate (came ++ accepted_by_answer h.state c event answer) (channel_at o (calls ++ call_of_answer h.state c event answer))
late_answer o c h came calls side event (Ok out) core made there counted k =
    late_step o c h came calls side event (step h.state event) there (ap (λ (s : channel_state.State). s.now) (made side there).state) (owners_placed o c h came calls side core made there counted) k
late_answer o c h came calls side event (Err cause) core made there counted k = late_by o came calls [] k

pub late_begun : (o : Opening) → IsLate [] (channel_at o [])
late_begun o = record {
  until = λ i x at. absurd (let impossible = at in cc);
  late = λ column clock owner at here. absurd (let impossible = at in cc);
}
