-- What stays of a history, and of the calls and clocks of a channel, as events come behind it.
use Rattle.std.proofs.Common.{◌≡◌, ◌≤◌, ℕ, Bool, true, false, cond, eqb, List, [], ◌∷◌, ◌++◌, length, Option, Some, None, Result, Ok, Err, append_assoc, refl, sym, ap, subst, ◌∙◌, arith}
use Rattle.std.specs.List.{slice_get, fold}
use Rattle.std.specs.Option.{option_map_or}
use Rattle.std.proofs.lemmas.List.Sums.{fold-append}
use Rattle.ddr_timing.specs.declared.units.TheConstants.{CLOCK_STOP}
use Rattle.ddr_address_map.specs.Requests.{Request}
use Rattle.ddr_arbiter.specs.declared.choice.Choice.{Choice}
use Rattle.ddr_arbiter.specs.declared.choice.Choice.TheVariants as choice
use Rattle.ddr_channel.specs.Choice.{choice_of}
use Rattle.ddr_channel.specs.Cycle.{after_cycle, at_choice}
use Rattle.ddr_channel.specs.History as channel
use Rattle.ddr_channel.specs.History.{Call, Owner, after_call, with_owner}
use Rattle.ddr_channel.specs.State.{after_admit, is_queue_full}
use Rattle.ddr_reorder.specs.Replies.{Answer}
use Rattle.ddr_world.specs.declared.event.Outcome.{Outcome}
use Rattle.ddr_world.specs.declared.event.Refusal.{Refusal}
use Rattle.ddr_world.specs.declared.item.Item.{Item}
use Rattle.ddr_world.specs.declared.item.Item.TheVariants as item
use Rattle.ddr_world.specs.Events.{Event, Submit, Take, Cycle, Deliver, Collect, Release, End}
use Rattle.ddr_world.specs.History.{Opening, Answered, History, accept, admit, after, after_answer, after_step, begun, front_of, give, next_item, request_of, run}
use Rattle.ddr_world.specs.Step.{Step, step}
use Rattle.ddr_world.proofs.CoreFrames.{with_next_grows}
use Rattle.ddr_world.proofs.CoreKeeps.{there_still}
use Rattle.ddr_core_deadline.specs.InCore.{call_of_answer, calls_of}
use Rattle.ddr_replay_deadline.specs.Waits.{accepted_by_answer, acceptances}
use Rattle.ddr_replay_deadline.proofs.AdmitLemmas.{cycle_clock}
use Rattle.ddr_replay_deadline.proofs.ClockLemmas.{still_there}

-- each element stays where it stands
abbrev pub Stays : {X : Type 0} → List X → List X → Type 0
Stays {X} xs ys = (i : ℕ) (x : X) → slice_get xs i ≡ Some x → slice_get ys i ≡ Some x

pub stays_by : {X : Type 0} (xs ys more : List X) → ys ≡ xs ++ more → Stays xs ys
stays_by xs ys more is i x at = ap (λ (zs : List _). slice_get zs i) is ∙ still_there xs more i x at

-- what was sent and accepted, by one event

pub admitted_same : (t : ℕ) (h : History) (x : Option Item) → ((option_map_or (admit t h) x h).sent ≡ h.sent) × ((option_map_or (admit t h) x h).taken ≡ h.taken) × ((option_map_or (admit t h) x h).accepted ≡ h.accepted)
admitted_same t h None = (refl, refl, refl)
admitted_same t h (Some (item.Request r)) = (refl, refl, refl)
admitted_same t h (Some (item.End p)) = (refl, refl, refl)

given_same : (p : ℕ) (h : History) (x : Option Answer) → ((option_map_or (give p h) x h).sent ≡ h.sent) × ((option_map_or (give p h) x h).accepted ≡ h.accepted)
given_same p h None = (refl, refl)
given_same p h (Some a) = (refl, refl)

pub asked_sent : (p q : ℕ) (h : History) (x : Option Request) → Stays (h.sent p) ((option_map_or (accept q h) x h).sent p)
asked_sent p q h None i w at = at
asked_sent p q h (Some r) i w at = there_still (h.sent p) ((accept q h r).sent p) i w (with_next_grows h.sent q (record { channel = r.place.channel; place = length (h.accepted r.place.channel) }) p) at

asked_accepted : (c q : ℕ) (h : History) (x : Option Request) → Stays (h.accepted c) ((option_map_or (accept q h) x h).accepted c)
asked_accepted c q h None i w at = at
asked_accepted c q h (Some r) i w at = there_still (h.accepted c) ((accept q h r).accepted c) i w (with_next_grows h.accepted r.place.channel r c) at

stays_same : {X : Type 0} (old new : ℕ → List X) (n : ℕ) → new ≡ old → Stays (old n) (new n)
stays_same old new n same i x at = ap (λ (f : ℕ → List _). slice_get (f n) i) same ∙ at

step_sent : (p : ℕ) (h : History) (event : Event) (r : Step) → Stays (h.sent p) ((after_step event h r).sent p)
step_sent p h event (Err cause) = λ i w at. at
step_sent p h (Submit q asked) (Ok m) = asked_sent p q h (request_of h.state q asked)
step_sent p h (Take t) (Ok m) = stays_same h.sent (option_map_or (admit t h) (next_item h.state t) h).sent p (admitted_same t h (next_item h.state t)).0
step_sent p h (Cycle t) (Ok m) = λ i w at. at
step_sent p h (Deliver t) (Ok m) = λ i w at. at
step_sent p h (Collect q) (Ok m) = λ i w at. at
step_sent p h (Release q) (Ok m) = stays_same h.sent (option_map_or (give q h) (front_of h.state q) h).sent p (given_same q h (front_of h.state q)).0
step_sent p h (End q t) (Ok m) = λ i w at. at

step_accepted : (c : ℕ) (h : History) (event : Event) (r : Step) → Stays (h.accepted c) ((after_step event h r).accepted c)
step_accepted c h event (Err cause) = λ i w at. at
step_accepted c h (Submit q asked) (Ok m) = asked_accepted c q h (request_of h.state q asked)
step_accepted c h (Take t) (Ok m) = stays_same h.accepted (option_map_or (admit t h) (next_item h.state t) h).accepted c (admitted_same t h (next_item h.state t)).2
step_accepted c h (Cycle t) (Ok m) = λ i w at. at
step_accepted c h (Deliver t) (Ok m) = λ i w at. at
step_accepted c h (Collect q) (Ok m) = λ i w at. at
step_accepted c h (Release q) (Ok m) = stays_same h.accepted (option_map_or (give q h) (front_of h.state q) h).accepted c (given_same q h (front_of h.state q)).1
step_accepted c h (End q t) (Ok m) = λ i w at. at

answer_sent : (p : ℕ) (h : History) (event : Event) (answer : Result Outcome Refusal) → Stays (h.sent p) ((after_answer h event answer).sent p)
answer_sent p h event (Ok o) = step_sent p h event (step h.state event)
answer_sent p h event (Err cause) = λ i w at. at

answer_accepted : (c : ℕ) (h : History) (event : Event) (answer : Result Outcome Refusal) → Stays (h.accepted c) ((after_answer h event answer).accepted c)
answer_accepted c h event (Ok o) = step_accepted c h event (step h.state event)
answer_accepted c h event (Err cause) = λ i w at. at

-- and by several

pub events_sent : (p : ℕ) (h : History) (events : List Answered) → Stays (h.sent p) ((fold after h events).sent p)
events_sent p h [] = λ i w at. at
events_sent p h (a ∷ later) = λ i w at. events_sent p (after h a) later i w (answer_sent p h a.event a.answer i w at)

pub events_accepted : (c : ℕ) (h : History) (events : List Answered) → Stays (h.accepted c) ((fold after h events).accepted c)
events_accepted c h [] = λ i w at. at
events_accepted c h (a ∷ later) = λ i w at. events_accepted c (after h a) later i w (answer_accepted c h a.event a.answer i w at)

-- an event that neither submits nor releases

abbrev pub IsInner : Event → Type 0
IsInner (Submit p asked) = ⊥
IsInner (Release p) = ⊥
IsInner (End p c) = ⊥
IsInner _ = Unit {0}

abbrev pub AreInner : List Answered → Type 0
AreInner [] = Unit {0}
AreInner (a ∷ later) = IsInner a.event × AreInner later

inner_step : (h : History) (event : Event) (r : Step) → IsInner event → ((after_step event h r).sent ≡ h.sent) × ((after_step event h r).taken ≡ h.taken)
inner_step h event (Err cause) inner = (refl, refl)
inner_step h (Submit q asked) (Ok m) inner = absurd inner
inner_step h (Take t) (Ok m) inner = let same = admitted_same t h (next_item h.state t) in (same.0, same.1)
inner_step h (Cycle t) (Ok m) inner = (refl, refl)
inner_step h (Deliver t) (Ok m) inner = (refl, refl)
inner_step h (Collect q) (Ok m) inner = (refl, refl)
inner_step h (Release q) (Ok m) inner = absurd inner
inner_step h (End q t) (Ok m) inner = absurd inner

inner_answer : (h : History) (event : Event) (answer : Result Outcome Refusal) → IsInner event → ((after_answer h event answer).sent ≡ h.sent) × ((after_answer h event answer).taken ≡ h.taken)
inner_answer h event (Ok o) inner = inner_step h event (step h.state event) inner
inner_answer h event (Err cause) inner = (refl, refl)

pub inner_same : (h : History) (events : List Answered) → AreInner events → ((fold after h events).sent ≡ h.sent) × ((fold after h events).taken ≡ h.taken)
inner_same h [] inner = (refl, refl)
inner_same h (a ∷ later) inner =
    let one = inner_answer h a.event a.answer inner.0 in
    let rest = inner_same (after h a) later inner.1 in
    (rest.0 ∙ one.0, rest.1 ∙ one.1)

-- a channel, by one call

owner_stays : (c : Choice) (h : channel.History) → Stays h.owners (with_owner c h).owners
owner_stays choice.Nothing h = λ i o at. at
owner_stays (choice.Refresh rank) h = λ i o at. at
owner_stays (choice.PreAll rank) h = λ i o at. at
owner_stays (choice.Act place) h = λ i o at. at
owner_stays (choice.Pre place) h = λ i o at. at
owner_stays (choice.Column place) h = λ i o at. still_there h.owners _ i o at
owner_stays (choice.ColumnAuto place) h = λ i o at. still_there h.owners _ i o at

call_owners : (h : channel.History) (call : Call) → Stays h.owners (after_call h call).owners
call_owners h (channel.Admit r) = by_full (is_queue_full h.state r.echo.kind)
  where
    by_full : (b : Bool) → Stays h.owners (cond b h (record h { state = after_admit r h.state; accepted = h.accepted ++ r ∷ []; waiting = h.waiting ++ length h.accepted ∷ [] })).owners
    by_full true = λ i o at. at
    by_full false = λ i o at. at
call_owners h channel.Cycle = by_stop (eqb h.state.now CLOCK_STOP)
  where
    by_stop : (b : Bool) → Stays h.owners (cond b h (record (with_owner (choice_of (at_choice h.state)) h) { state = after_cycle h.state })).owners
    by_stop true = λ i o at. at
    by_stop false = owner_stays (choice_of (at_choice h.state)) h
call_owners h channel.Pop = λ i o at. at

pub call_now : (h : channel.History) (call : Call) → h.state.now ≤ (after_call h call).state.now
call_now h (channel.Admit r) = by_full (is_queue_full h.state r.echo.kind)
  where
    by_full : (b : Bool) → h.state.now ≤ (cond b h (record h { state = after_admit r h.state; accepted = h.accepted ++ r ∷ []; waiting = h.waiting ++ length h.accepted ∷ [] })).state.now
    by_full true = omega arith
    by_full false = omega arith
call_now h channel.Cycle = by_stop (eqb h.state.now CLOCK_STOP)
  where
    by_stop : (b : Bool) → h.state.now ≤ (cond b h (record (with_owner (choice_of (at_choice h.state)) h) { state = after_cycle h.state })).state.now
    by_stop true = omega arith
    by_stop false = omega (arith, cycle_clock h.state)
call_now h channel.Pop = omega arith

-- and by several

owners_stay : (h : channel.History) (calls : List Call) → Stays h.owners (fold after_call h calls).owners
owners_stay h [] = λ i o at. at
owners_stay h (call ∷ later) = λ i o at. owners_stay (after_call h call) later i o (call_owners h call i o at)

now_stays : (h : channel.History) (calls : List Call) → h.state.now ≤ (fold after_call h calls).state.now
now_stays h [] = omega arith
now_stays h (call ∷ later) = omega (arith, call_now h call, now_stays (after_call h call) later)

-- the channel that calls make
abbrev pub channel_at : Opening → List Call → channel.History
channel_at o calls = channel.run o.config o.cycle calls

pub calls_owners : (o : Opening) (calls more : List Call) → Stays (channel_at o calls).owners (channel_at o (calls ++ more)).owners
calls_owners o calls more i w at = ap (λ (h : channel.History). slice_get h.owners i) (fold-append after_call (channel.begun o.config o.cycle) calls more) ∙ owners_stay (channel_at o calls) more i w at

pub calls_now : (o : Opening) (calls more : List Call) → (channel_at o calls).state.now ≤ (channel_at o (calls ++ more)).state.now
calls_now o calls more = subst (λ (h : channel.History). (channel_at o calls).state.now ≤ h.state.now) (sym (fold-append after_call (channel.begun o.config o.cycle) calls more)) (now_stays (channel_at o calls) more)

-- the calls and the clocks of more events

pub calls_more : (c : ℕ) (h : History) (events more : List Answered) → calls_of c h (events ++ more) ≡ calls_of c h events ++ calls_of c (fold after h events) more
calls_more c h [] more = refl
calls_more c h (a ∷ later) more =
    ap (λ (cs : List Call). call_of_answer h.state c a.event a.answer ++ cs) (calls_more c (after h a) later more)
    ∙ sym (append_assoc (call_of_answer h.state c a.event a.answer) (calls_of c (after h a) later) (calls_of c (fold after (after h a) later) more))

pub acceptances_more : (c : ℕ) (h : History) (events more : List Answered) → acceptances c h (events ++ more) ≡ acceptances c h events ++ acceptances c (fold after h events) more
acceptances_more c h [] more = refl
acceptances_more c h (a ∷ later) more =
    ap (λ (cs : List ℕ). accepted_by_answer h.state c a.event a.answer ++ cs) (acceptances_more c (after h a) later more)
    ∙ sym (append_assoc (accepted_by_answer h.state c a.event a.answer) (acceptances c (after h a) later) (acceptances c (fold after (after h a) later) more))

-- behind the events of an opening more came
pub record GoesOn (o : Opening) (events more : List Answered) : Type 0 where
  pub whole : run o (events ++ more) ≡ fold after (run o events) more
  pub sent : (p : ℕ) → Stays ((run o events).sent p) ((run o (events ++ more)).sent p)
  pub accepted : (c : ℕ) → Stays ((run o events).accepted c) ((run o (events ++ more)).accepted c)
  pub came : (c : ℕ) → Stays (acceptances c (begun o) events) (acceptances c (begun o) (events ++ more))
  pub owners : (c : ℕ) → Stays (channel_at o (calls_of c (begun o) events)).owners (channel_at o (calls_of c (begun o) (events ++ more))).owners

pub goes_on : (o : Opening) (events more : List Answered) → GoesOn o events more
goes_on o events more =
    let whole = fold-append after (begun o) events more in
    record {
      whole = whole;
      sent = λ p i w at. ap (λ (h : History). slice_get (h.sent p) i) whole ∙ events_sent p (run o events) more i w at;
      accepted = λ c i r at. ap (λ (h : History). slice_get (h.accepted c) i) whole ∙ events_accepted c (run o events) more i r at;
      came = λ c. stays_by (acceptances c (begun o) events) (acceptances c (begun o) (events ++ more)) (acceptances c (run o events) more) (acceptances_more c (begun o) events more);
      owners = λ c i w at.
          ap (λ (cs : List Call). slice_get (channel_at o cs).owners i) (calls_more c (begun o) events more)
          ∙ calls_owners o (calls_of c (begun o) events) (calls_of c (run o events) more) i w at;
    }
