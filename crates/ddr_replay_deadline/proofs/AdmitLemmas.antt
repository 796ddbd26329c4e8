-- What each event makes of the clocks at which a channel's queue accepted requests, and of those at which the channel admitted them.
use Rattle.std.proofs.Common.{◌≡◌, ◌≤◌, ◌<◌, ◌+◌, ℕ, suc, ◌||◌, Bool, true, false, cond, eqb, List, [], ◌∷◌, ◌++◌, Option, Some, None, Result, Ok, Err, OnOk, append-nil, length, refl, sym, ap, subst, ◌∙◌, ◌⊎◌, inl, inr, arith}
use Rattle.std.specs.List.{slice_get, fold}
use Rattle.std.specs.Option.{option_map_or}
use Rattle.std.specs.Result.{IsErr, is_err}
use Rattle.std.proofs.lemmas.Bool.{eqb-true, leb-true, or_cases}
use Rattle.std.proofs.lemmas.List.{append_assoc, length-append, length_push}
use Rattle.std.proofs.lemmas.List.Sums.{fold-append}
use Rattle.std.proofs.lemmas.Option.{slice_get_within}
use Rattle.ddr_timing.specs.declared.config.Config.{Config}
use Rattle.ddr_timing.specs.declared.units.TheConstants.{CLOCK_STOP}
use Rattle.ddr_latency.specs.Bound.{burst, latency, leaves_room}
use Rattle.ddr_address_map.specs.declared.request.Kind.{Kind}
use Rattle.ddr_address_map.specs.declared.request.Kind.TheVariants.{Read, Write}
use Rattle.ddr_address_map.specs.Requests.{Request}
use Rattle.ddr_hazards.specs.declared.waiting.Waiting.{Waiting}
use Rattle.ddr_hazards.specs.PendingList.{pending_count}
use Rattle.ddr_arbiter.specs.Laws.{command_of}
use Rattle.ddr_channel.specs.Choice.{choice_of}
use Rattle.ddr_channel.specs.Cycle.{after_cycle, at_choice, recorded}
use Rattle.ddr_channel.specs.History as channel
use Rattle.ddr_channel.specs.History.{Call, after_call, with_owner}
use Rattle.ddr_channel.specs.Promise.{AreCalls}
use Rattle.ddr_channel.specs.State as channel_state
use Rattle.ddr_channel.specs.State.{is_queue_full}
use Rattle.ddr_channel.proofs.HistoryLemmas.{kept_run, served_alike, waiting_length}
use Rattle.ddr_channel.proofs.PlaceLemmas.{at_place}
use Rattle.ddr_deadline.specs.InTime.{IsServedInTime, admissions, admitted_by}
use Rattle.ddr_deadline.proofs.AdmissionLemmas.{admissions_more}
use Rattle.ddr_deadline.proofs.OnWayLemmas.{in_time_run}
use Rattle.ddr_world.specs.declared.event.Outcome.{Outcome}
use Rattle.ddr_world.specs.declared.event.Refusal.{Refusal}
use Rattle.ddr_world.specs.declared.event.Outcome.TheVariants as outcome
use Rattle.ddr_world.specs.declared.event.Refusal.TheVariants as refusal
use Rattle.ddr_world.specs.declared.item.Item.{Item}
use Rattle.ddr_world.specs.declared.item.Item.TheVariants as item
use Rattle.ddr_world.specs.Events.{Event, Submit, Take, Cycle, Deliver, Collect, Release, End}
use Rattle.ddr_reorder.specs.Replies.{Answer}
use Rattle.ddr_world.specs.History.{Opening, Answered, History, accept, after, after_answer, after_step, admit, begun, front_of, give, next_item, request_of, run}
use Rattle.ddr_world.specs.State.{ChannelSide, State}
use Rattle.ddr_world.specs.Step.{Step, after_take, change_channel, step, taken}
use Rattle.ddr_world.proofs.CoreKeeps.{CoreKeeps, requests_in}
use Rattle.ddr_world.proofs.CoreRuns.{run_keeps}
use Rattle.ddr_core_deadline.specs.InCore.{FindsAllTakenIn, TakesAllIn, call_of_answer, call_of_step, calls_of, taken_by}
use Rattle.ddr_core_deadline.proofs.EventLemmas.{IsMadeIn, answer_made, begun_made}
use Rattle.ddr_replay_deadline.specs.Waits.{accepted_by_answer, accepted_by_step, acceptances, clock_at, goes_to}
use Rattle.ddr_replay_deadline.proofs.ClockLemmas.{IsBounded, IsNext, Waits, waits_begun, waits_come, waits_leave, waits_on}
use Rattle.ddr_replay_deadline.proofs.FitLemmas.{FitsIn, run_fits}
use Rattle.ddr_replay_deadline.proofs.RefusedLemmas.{FindsRefusedIn, RefusesIn}

-- one clock for each request of the acceptance list

asked_counted : (c : ℕ) (p : ℕ) (h : History) (side : ChannelSide) (x : Option Request) → slice_get h.state.channels c ≡ Some side
    → length ((option_map_or (accept p h) x h).accepted c) ≡ length (h.accepted c) + length (cond (option_map_or (λ (r : Request). eqb c r.place.channel) x false) (clock_at h.state c) [])
asked_counted c p h side None there = omega arith
asked_counted c p h side (Some r) there = by_channel (eqb c r.place.channel)
  where
    by_channel : (b : Bool) → length (cond b (h.accepted c ++ r ∷ []) (h.accepted c)) ≡ length (h.accepted c) + length (cond b (clock_at h.state c) [])
    by_channel true =
        let one : length (clock_at h.state c) ≡ 1 = ap (λ (y : Option ChannelSide). length (option_map_or (λ (s : ChannelSide). s.channel.now ∷ []) y [])) there in
        omega (arith, length_push (h.accepted c) r, one)
    by_channel false = omega arith

admit_counted : (c t : ℕ) (h : History) (x : Option Item) → length ((option_map_or (admit t h) x h).accepted c) ≡ length (h.accepted c) + 0
admit_counted c t h None = omega arith
admit_counted c t h (Some (item.Request r)) = omega arith
admit_counted c t h (Some (item.End p)) = omega arith

step_counted : (c : ℕ) (h : History) (side : ChannelSide) (event : Event) (r : Step) → slice_get h.state.channels c ≡ Some side → length ((after_step event h r).accepted c) ≡ length (h.accepted c) + length (accepted_by_step h.state c event r)
step_counted c h side event (Err cause) there = omega arith
step_counted c h side (Submit p asked) (Ok m) there = asked_counted c p h side (request_of h.state p asked) there
step_counted c h side (Take t) (Ok m) there = admit_counted c t h (next_item h.state t)
step_counted c h side (Cycle t) (Ok m) there = omega arith
step_counted c h side (Deliver t) (Ok m) there = omega arith
step_counted c h side (Collect p) (Ok m) there = omega arith
step_counted c h side (Release p) (Ok m) there = by_front (front_of h.state p)
  where
    by_front : (x : Option Answer) → length ((option_map_or (give p h) x h).accepted c) ≡ length (h.accepted c) + 0
    by_front None = omega arith
    by_front (Some a) = omega arith
step_counted c h side (End p t) (Ok m) there = omega arith

pub answer_counted : (c : ℕ) (h : History) (side : ChannelSide) (event : Event) (answer : Result Outcome Refusal) → slice_get h.state.channels c ≡ Some side
    → length ((after_answer h event answer).accepted c) ≡ length (h.accepted c) + length (accepted_by_answer h.state c event answer)
answer_counted c h side event (Ok o) there = step_counted c h side event (step h.state event) there
answer_counted c h side event (Err cause) there = omega arith

-- as many as were accepted and not admitted wait in the queue, which holds no more than it may

requests_few : (items : List Item) → length (requests_in items) ≤ length items
requests_few [] = omega arith
requests_few (item.Request r ∷ items) = omega (arith, requests_few items)
requests_few (item.End p ∷ items) = omega (arith, requests_few items)

-- the cycles in which the calls admit requests, and the clock that they leave
abbrev admitted_of : Opening → List Call → List ℕ
admitted_of o calls = admissions (channel.begun o.config o.cycle) calls

abbrev clock_of : Opening → List Call → ℕ
clock_of o calls = (channel.run o.config o.cycle calls).state.now

-- each accepted request was admitted, or waits in the queue
queue_counted : (o : Opening) (c : ℕ) (h : History) (calls : List Call) (side : ChannelSide) → leaves_room o.config ≡ true → CoreKeeps o h → IsMadeIn o c calls h → slice_get h.state.channels c ≡ Some side
    → length (admitted_of o calls) + length (requests_in side.requests) ≡ length (h.accepted c)
queue_counted o c h calls side leaves core k there =
    let by = k side there in
    let each : length (admitted_of o calls) ≡ length (h.admitted c) = (in_time_run o.config o.cycle calls leaves by.are by.takes).each ∙ ap (λ (rs : List Request). length rs) by.admitted_are in
    ap (λ n. n + length (requests_in side.requests)) each ∙ sym (length-append (h.admitted c) (requests_in side.requests)) ∙ ap (λ (rs : List Request). length rs) (core.channels c side there).accepted_are

queue_bounded : (o : Opening) (c : ℕ) (h : History) (came : List ℕ) (calls : List Call) (side : ChannelSide) → leaves_room o.config ≡ true → CoreKeeps o h → IsMadeIn o c calls h → FitsIn o.config.limits.intake h.state.channels
    → length came ≡ length (h.accepted c) → slice_get h.state.channels c ≡ Some side → IsBounded o.config.limits.intake came (admitted_of o calls)
queue_bounded o c h came calls side leaves core k fits counted there =
    let all = queue_counted o c h calls side leaves core k there in record {
      few = omega (arith, all, counted);
      most = omega (arith, all, counted, requests_few side.requests, fits c side there);
    }

-- where a channel takes nothing more though a request waits, one is pending, and so the last one was admitted not long before

counted_pending : (kind : Kind) (waiting : List Waiting) → 1 ≤ pending_count kind waiting → 1 ≤ length waiting
counted_pending kind [] some = absurd (omega (arith, some))
counted_pending kind (w ∷ waiting) some = omega arith

some_pending : (kind : Kind) (s : channel_state.State) → is_queue_full s kind ≡ true → 1 ≤ length s.pending
some_pending Read s full = counted_pending Read s.pending (omega (arith, leb-true s.config.limits.reads (pending_count Read s.pending) full, s.config.limits.reads_range))
some_pending Write s full = counted_pending Write s.pending (omega (arith, leb-true s.config.limits.writes (pending_count Write s.pending) full, s.config.limits.writes_range))

taken_refused : (side : ChannelSide) (x : Option Item) (b : Bool) → slice_get side.requests 0 ≡ x → (is_queue_full side.channel Read || is_queue_full side.channel Write) ≡ b
    → IsErr (option_map_or (λ it. cond b (Err refusal.QueueFull) (Ok (after_take it side))) x (Err refusal.Nothing)) → (side.requests ≡ []) ⊎ (1 ≤ length side.channel.pending)
taken_refused side None b first full refused = inl (no_first side.requests first)
  where
    no_first : (items : List Item) → slice_get items 0 ≡ None → items ≡ []
    no_first [] is = refl
    no_first (it ∷ items) is = absurd (let impossible = is in cc)
taken_refused side (Some it) true first full refused = elim (or_cases (is_queue_full side.channel Read) (is_queue_full side.channel Write) full) [
  | inl reads ↦ inr (some_pending Read side.channel reads)
  | inr writes ↦ inr (some_pending Write side.channel writes)
]
taken_refused side (Some it) false first full refused = absurd (let impossible = refused in cc)

changed_refused : (s : State) (c : ℕ) (side : ChannelSide) → IsErr (change_channel s c outcome.Taken (taken side)) → IsErr (taken side)
changed_refused s c side refused = by_taken (taken side) refused
  where
    by_taken : (r : Result ChannelSide Refusal) → IsErr (change_channel s c outcome.Taken r) → IsErr r
    by_taken (Ok new) is = absurd (let impossible = is in cc)
    by_taken (Err cause) is = refl

take_refused : (s : State) (c : ℕ) (side : ChannelSide) → slice_get s.channels c ≡ Some side → IsErr (step s (Take c)) → (side.requests ≡ []) ⊎ (1 ≤ length side.channel.pending)
take_refused s c side there refused =
    let at : IsErr (change_channel s c outcome.Taken (taken side)) = ap (λ (x : Option ChannelSide). is_err (option_map_or (λ (y : ChannelSide). change_channel s c outcome.Taken (taken y)) x (Err refusal.NoSuch))) (sym there) ∙ refused in
    taken_refused side (slice_get side.requests 0) (is_queue_full side.channel Read || is_queue_full side.channel Write) refl refl (changed_refused s c side at)

last_of : (xs : List ℕ) (k x : ℕ) → slice_get xs k ≡ Some x → (before : ℕ) × (length xs ≡ suc before) × (k ≤ before)
last_of [] k x at = absurd (let impossible = at in cc)
last_of (y ∷ xs) k x at = (length xs, refl, omega (arith, slice_get_within (y ∷ xs) k x at))

admitted_lately : (o : Opening) (came : List ℕ) (calls : List Call) → leaves_room o.config ≡ true → AreCalls o.config calls → IsServedInTime (admitted_of o calls) (channel.run o.config o.cycle calls)
    → Waits o.config.limits.intake (latency o.config) came (admitted_of o calls) (clock_of o calls) → 1 ≤ length (channel.run o.config o.cycle calls).state.pending
    → IsNext (latency o.config) (admitted_of o calls) (length (admitted_of o calls)) (clock_of o calls + 1)
admitted_lately o came calls leaves are time waits some =
    let h = channel.run o.config o.cycle calls in
    let kept = kept_run o.config o.cycle calls are in
    let w = at_place h.state.pending 0 some in
    let number = at_place h.waiting 0 (omega (arith, some, waiting_length h.state.now h kept.keeps)) in
    let since = time.since 0 number.0 w.0 number.1 w.1 in
    let wait : h.state.now + burst o.config < w.0.admitted + latency o.config = subst (λ (config : Config). h.state.now + burst config < w.0.admitted + latency config) kept.config_is (time.waiting 0 w.0 w.1) in
    let last = last_of (admitted_of o calls) number.0 w.0.admitted since in
    let one = at_place (admitted_of o calls) last.0 (omega (arith, last.1)) in
    record {
      before = last.0;
      is = last.1;
      clock = one.0;
      there = one.1;
      soon = omega (arith, wait, waits.ascending number.0 last.0 w.0.admitted one.0 last.2 since one.1);
    }

-- one event more

abbrev WaitsBy : Opening → List ℕ → List Call → Type 0
WaitsBy o came calls = Waits o.config.limits.intake (latency o.config) came (admitted_of o calls) (clock_of o calls)

abbrev IsBoundedBy : Opening → List ℕ → List Call → Type 0
IsBoundedBy o came calls = IsBounded o.config.limits.intake came (admitted_of o calls)

by_none : (o : Opening) (came : List ℕ) (calls : List Call) → WaitsBy o came calls → WaitsBy o (came ++ []) (calls ++ [])
by_none o came calls w = subst (λ (cs : List ℕ). WaitsBy o cs (calls ++ [])) (sym (append-nil came)) (subst (WaitsBy o came) (sym (append-nil calls)) w)

by_clock : (o : Opening) (came : List ℕ) (calls : List Call) → WaitsBy o came calls → IsBoundedBy o (came ++ clock_of o calls ∷ []) (calls ++ []) → WaitsBy o (came ++ clock_of o calls ∷ []) (calls ++ [])
by_clock o came calls w bounded =
    subst (WaitsBy o (came ++ clock_of o calls ∷ [])) (sym (append-nil calls))
    (waits_come o.config.limits.intake (latency o.config) came (admitted_of o calls) (clock_of o calls) w (subst (IsBoundedBy o (came ++ clock_of o calls ∷ [])) (append-nil calls) bounded))

-- the lists and the clock behind a call more
call_admits : (o : Opening) (calls : List Call) (call : Call) → admitted_of o (calls ++ call ∷ []) ≡ admitted_of o calls ++ admitted_by (channel.run o.config o.cycle calls) call
call_admits o calls call = admissions_more (channel.begun o.config o.cycle) calls call

call_clock : (o : Opening) (calls : List Call) (call : Call) → clock_of o (calls ++ call ∷ []) ≡ (after_call (channel.run o.config o.cycle calls) call).state.now
call_clock o calls call = ap (λ (h : channel.History). h.state.now) (fold-append after_call (channel.begun o.config o.cycle) calls (call ∷ []))

by_call : (o : Opening) (came : List ℕ) (calls : List Call) (call : Call)
    → Waits o.config.limits.intake (latency o.config) came (admitted_of o calls ++ admitted_by (channel.run o.config o.cycle calls) call) (after_call (channel.run o.config o.cycle calls) call).state.now → WaitsBy o (came ++ []) (calls ++ call ∷ [])
by_call o came calls call w =
    subst (λ (cs : List ℕ). WaitsBy o cs (calls ++ call ∷ [])) (sym (append-nil came))
    (subst (λ (cs : List ℕ). Waits o.config.limits.intake (latency o.config) came cs (clock_of o (calls ++ call ∷ []))) (sym (call_admits o calls call))
    (subst (Waits o.config.limits.intake (latency o.config) came (admitted_of o calls ++ admitted_by (channel.run o.config o.cycle calls) call)) (sym (call_clock o calls call)) w))

-- a call that admits none, and leaves the clock at this
by_other : (o : Opening) (came : List ℕ) (calls : List Call) (call : Call) (next : ℕ) → admitted_by (channel.run o.config o.cycle calls) call ≡ [] → (after_call (channel.run o.config o.cycle calls) call).state.now ≡ next
    → Waits o.config.limits.intake (latency o.config) came (admitted_of o calls) next → WaitsBy o (came ++ []) (calls ++ call ∷ [])
by_other o came calls call next none clock w =
    by_call o came calls call
    (subst (Waits o.config.limits.intake (latency o.config) came (admitted_of o calls ++ admitted_by (channel.run o.config o.cycle calls) call)) (sym clock)
    (subst (λ (cs : List ℕ). Waits o.config.limits.intake (latency o.config) came cs next) (sym (append-nil (admitted_of o calls)) ∙ ap (λ (cs : List ℕ). admitted_of o calls ++ cs) (sym none)) w))

by_pop : (o : Opening) (came : List ℕ) (calls : List Call) → WaitsBy o came calls → WaitsBy o (came ++ []) (calls ++ channel.Pop ∷ [])
by_pop o came calls w = by_other o came calls channel.Pop (clock_of o calls) refl refl w

by_admit : (o : Opening) (came : List ℕ) (calls : List Call) (r : Request) → WaitsBy o came calls → IsBoundedBy o (came ++ []) (calls ++ channel.Admit r ∷ []) → WaitsBy o (came ++ []) (calls ++ channel.Admit r ∷ [])
by_admit o came calls r w bounded =
    let h = channel.run o.config o.cycle calls in
    let now = subst (IsBounded o.config.limits.intake came) (call_admits o calls (channel.Admit r)) (subst (λ (cs : List ℕ). IsBoundedBy o cs (calls ++ channel.Admit r ∷ [])) (append-nil came) bounded) in
    by_call o came calls (channel.Admit r) (by_full h (is_queue_full h.state r.echo.kind) _ refl w now)
  where
    by_full : (h : channel.History) (b : Bool) (next : channel.History) → next.state.now ≡ h.state.now → Waits o.config.limits.intake (latency o.config) came (admitted_of o calls) h.state.now
        → IsBounded o.config.limits.intake came (admitted_of o calls ++ cond b [] (h.state.now ∷ [])) → Waits o.config.limits.intake (latency o.config) came (admitted_of o calls ++ cond b [] (h.state.now ∷ [])) (cond b h next).state.now
    by_full h true next same w now = subst (λ (cs : List ℕ). Waits o.config.limits.intake (latency o.config) came cs h.state.now) (sym (append-nil (admitted_of o calls))) w
    by_full h false next same w now =
        subst (Waits o.config.limits.intake (latency o.config) came (admitted_of o calls ++ h.state.now ∷ [])) (sym same)
        (waits_leave o.config.limits.intake (latency o.config) came (admitted_of o calls) h.state.now w now)

pub cycle_clock : (s : channel_state.State) → (after_cycle s).now ≡ s.now + 1
cycle_clock s = served_alike (λ t. t.now + 1) (λ t place r. refl) (choice_of (at_choice s)) (recorded (command_of (at_choice s).pending (choice_of (at_choice s))) (at_choice s))

by_cycle : (o : Opening) (came : List ℕ) (calls : List Call) → ((x : ℕ) → slice_get came (length (admitted_of o calls)) ≡ Some x → IsNext (latency o.config) (admitted_of o calls) (length (admitted_of o calls)) (clock_of o calls + 1))
    → WaitsBy o came calls → WaitsBy o (came ++ []) (calls ++ channel.Cycle ∷ [])
by_cycle o came calls late w = by_stop (eqb (clock_of o calls) CLOCK_STOP) refl
  where
    h : channel.History
    h = channel.run o.config o.cycle calls

    by_stop : (b : Bool) → eqb (clock_of o calls) CLOCK_STOP ≡ b → WaitsBy o (came ++ []) (calls ++ channel.Cycle ∷ [])
    by_stop true is =
        by_other o came calls channel.Cycle (clock_of o calls) refl
        (ap (λ b. (cond b h (record (with_owner (choice_of (at_choice h.state)) h) { state = after_cycle h.state })).state.now) is) w
    by_stop false is =
        by_other o came calls channel.Cycle (clock_of o calls + 1) refl
        (ap (λ b. (cond b h (record (with_owner (choice_of (at_choice h.state)) h) { state = after_cycle h.state })).state.now) is ∙ cycle_clock h.state)
        (waits_on o.config.limits.intake (latency o.config) came (admitted_of o calls) (clock_of o calls) (clock_of o calls + 1) (omega arith) late w)

-- each event

-- a cycle finds that its channel takes nothing more: no request waits, or the last one was admitted not long before
cycle_late : (o : Opening) (c : ℕ) (h : History) (came : List ℕ) (calls : List Call) (side : ChannelSide) → leaves_room o.config ≡ true → CoreKeeps o h → IsMadeIn o c calls h → length came ≡ length (h.accepted c) → slice_get h.state.channels c ≡ Some side
    → IsErr (step h.state (Take c)) → WaitsBy o came calls → (x : ℕ) → slice_get came (length (admitted_of o calls)) ≡ Some x
    → IsNext (latency o.config) (admitted_of o calls) (length (admitted_of o calls)) (clock_of o calls + 1)
cycle_late o c h came calls side leaves core k counted there refused w x at = elim (take_refused h.state c side there refused) [
  | inl none ↦ absurd (omega (arith, queue_counted o c h calls side leaves core k there, ap (λ (items : List Item). length (requests_in items)) none, counted, slice_get_within came (length (admitted_of o calls)) x at))
  | inr some ↦ (let by = k side there in
      admitted_lately o came calls leaves by.are (in_time_run o.config o.cycle calls leaves by.are by.takes) w (subst (λ (s : channel_state.State). 1 ≤ length s.pending) by.state some))
]

submit_by_channel : (o : Opening) (c : ℕ) (s : State) (came : List ℕ) (calls : List Call) (side : ChannelSide) (b : Bool) → slice_get s.channels c ≡ Some side → side.channel.now ≡ clock_of o calls → WaitsBy o came calls
    → IsBoundedBy o (came ++ cond b (clock_at s c) []) (calls ++ []) → WaitsBy o (came ++ cond b (clock_at s c) []) (calls ++ [])
submit_by_channel o c s came calls side false there now w bounded = by_none o came calls w
submit_by_channel o c s came calls side true there now w bounded =
    let same : clock_at s c ≡ clock_of o calls ∷ [] = ap (λ (y : Option ChannelSide). option_map_or (λ (z : ChannelSide). z.channel.now ∷ []) y []) there ∙ ap (λ n. n ∷ []) now in
    subst (λ (ns : List ℕ). WaitsBy o (came ++ ns) (calls ++ [])) (sym same)
    (by_clock o came calls w (subst (λ (ns : List ℕ). IsBoundedBy o (came ++ ns) (calls ++ [])) same bounded))

take_by_channel : (o : Opening) (came : List ℕ) (calls : List Call) (b : Bool) (x : Option Item) → WaitsBy o came calls → IsBoundedBy o (came ++ []) (calls ++ cond b (option_map_or taken_by x []) []) → WaitsBy o (came ++ []) (calls ++ cond b (option_map_or taken_by x []) [])
take_by_channel o came calls false x w bounded = by_none o came calls w
take_by_channel o came calls true None w bounded = by_none o came calls w
take_by_channel o came calls true (Some (item.Request r)) w bounded = by_admit o came calls r w bounded
take_by_channel o came calls true (Some (item.End p)) w bounded = by_none o came calls w

deliver_by_channel : (o : Opening) (came : List ℕ) (calls : List Call) (b : Bool) → WaitsBy o came calls → WaitsBy o (came ++ []) (calls ++ cond b (channel.Pop ∷ []) [])
deliver_by_channel o came calls false w = by_none o came calls w
deliver_by_channel o came calls true w = by_pop o came calls w

cycle_by_channel : (o : Opening) (came : List ℕ) (calls : List Call) (c t : ℕ) (b : Bool) → eqb t c ≡ b
    → (t ≡ c → (x : ℕ) → slice_get came (length (admitted_of o calls)) ≡ Some x → IsNext (latency o.config) (admitted_of o calls) (length (admitted_of o calls)) (clock_of o calls + 1)) → WaitsBy o came calls
    → WaitsBy o (came ++ []) (calls ++ cond b (channel.Cycle ∷ []) [])
cycle_by_channel o came calls c t false is late w = by_none o came calls w
cycle_by_channel o came calls c t true is late w = by_cycle o came calls (late (eqb-true t c is)) w

step_waits : (o : Opening) (c : ℕ) (h : History) (came : List ℕ) (calls : List Call) (side : ChannelSide) (event : Event) (r : Step) → leaves_room o.config ≡ true → CoreKeeps o h → IsMadeIn o c calls h → length came ≡ length (h.accepted c)
    → slice_get h.state.channels c ≡ Some side → FindsRefusedIn h.state event → WaitsBy o came calls → IsBoundedBy o (came ++ accepted_by_step h.state c event r) (calls ++ call_of_step h.state c event r)
    → WaitsBy o (came ++ accepted_by_step h.state c event r) (calls ++ call_of_step h.state c event r)
step_waits o c h came calls side event (Err cause) leaves core k counted there finds w bounded = by_none o came calls w
step_waits o c h came calls side (Submit p asked) (Ok m) leaves core k counted there finds w bounded =
    submit_by_channel o c h.state came calls side (goes_to h.state c p asked) there (ap (λ (s : channel_state.State). s.now) (k side there).state) w bounded
step_waits o c h came calls side (Take t) (Ok m) leaves core k counted there finds w bounded = take_by_channel o came calls (eqb t c) (next_item h.state t) w bounded
step_waits o c h came calls side (Cycle t) (Ok m) leaves core k counted there finds w bounded =
    cycle_by_channel o came calls c t (eqb t c) refl (λ same. cycle_late o c h came calls side leaves core k counted there (subst (λ i. IsErr (step h.state (Take i))) same finds) w) w
step_waits o c h came calls side (Deliver t) (Ok m) leaves core k counted there finds w bounded = deliver_by_channel o came calls (eqb t c) w
step_waits o c h came calls side (Collect p) (Ok m) leaves core k counted there finds w bounded = by_none o came calls w
step_waits o c h came calls side (Release p) (Ok m) leaves core k counted there finds w bounded = by_none o came calls w
step_waits o c h came calls side (End p t) (Ok m) leaves core k counted there finds w bounded = by_none o came calls w

answer_waits : (o : Opening) (c : ℕ) (h : History) (came : List ℕ) (calls : List Call) (side : ChannelSide) (event : Event) (answer : Result Outcome Refusal) → leaves_room o.config ≡ true → CoreKeeps o h → IsMadeIn o c calls h
    → length came ≡ length (h.accepted c) → slice_get h.state.channels c ≡ Some side → OnOk answer (FindsRefusedIn h.state event) → WaitsBy o came calls
    → IsBoundedBy o (came ++ accepted_by_answer h.state c event answer) (calls ++ call_of_answer h.state c event answer) → WaitsBy o (came ++ accepted_by_answer h.state c event answer) (calls ++ call_of_answer h.state c event answer)
answer_waits o c h came calls side event (Ok out) leaves core k counted there finds w bounded = step_waits o c h came calls side event (step h.state event) leaves core k counted there finds w bounded
answer_waits o c h came calls side event (Err cause) leaves core k counted there finds w bounded = by_none o came calls w

-- every record

-- what is known of a channel that there is
pub record IsWaiting (o : Opening) (c : ℕ) (h : History) (came : List ℕ) (calls : List Call) : Type 0 where
  pub made : IsMadeIn o c calls h
  pub counted : length came ≡ length (h.accepted c)
  pub bounded : IsBoundedBy o came calls
  pub waits : WaitsBy o came calls

pub there_is : (o : Opening) (c : ℕ) (h : History) → CoreKeeps o h → c < o.config.geometry.channels → (side : ChannelSide) × (slice_get h.state.channels c ≡ Some side)
there_is o c h core inside = at_place h.state.channels c (omega (arith, inside, core.channels_are))

waiting_then : (o : Opening) (c : ℕ) (h : History) (came : List ℕ) (calls : List Call) (a : Answered) → leaves_room o.config ≡ true → c < o.config.geometry.channels → CoreKeeps o h → CoreKeeps o (after h a)
    → FitsIn o.config.limits.intake (after h a).state.channels → OnOk a.answer (FindsAllTakenIn h.state a.event) → OnOk a.answer (FindsRefusedIn h.state a.event) → IsWaiting o c h came calls
    → IsWaiting o c (after h a) (came ++ accepted_by_answer h.state c a.event a.answer) (calls ++ call_of_answer h.state c a.event a.answer)
waiting_then o c h came calls a leaves inside core core' fits taken refused k =
    let more = accepted_by_answer h.state c a.event a.answer in
    let later = calls ++ call_of_answer h.state c a.event a.answer in
    let here = there_is o c h core inside in
    let behind = there_is o c (after h a) core' inside in
    let made = answer_made o c h calls a.event a.answer core taken k.made in
    let counted : length (came ++ more) ≡ length ((after h a).accepted c) = length-append came more ∙ ap (λ n. n + length more) k.counted ∙ sym (answer_counted c h here.0 a.event a.answer here.1) in
    let bounded = queue_bounded o c (after h a) (came ++ more) later behind.0 leaves core' made fits counted behind.1 in
    record {
      made = made;
      counted = counted;
      bounded = bounded;
      waits = answer_waits o c h came calls here.0 a.event a.answer leaves core k.made k.counted here.1 refused k.waits bounded;
    }

events_wait : (o : Opening) (c : ℕ) (h : History) (came : List ℕ) (calls : List Call) (events : List Answered) → leaves_room o.config ≡ true → c < o.config.geometry.channels → ((later : List Answered) → CoreKeeps o (fold after h later))
    → ((later : List Answered) → FitsIn o.config.limits.intake (fold after h later).state.channels) → TakesAllIn h events → RefusesIn h events → IsWaiting o c h came calls
    → IsWaiting o c (fold after h events) (came ++ acceptances c h events) (calls ++ calls_of c h events)
events_wait o c h came calls [] leaves inside core fits takes refuses k =
    subst (λ (cs : List ℕ). IsWaiting o c h cs (calls ++ [])) (sym (append-nil came)) (subst (IsWaiting o c h came) (sym (append-nil calls)) k)
events_wait o c h came calls (a ∷ later) leaves inside core fits takes refuses k =
    let more = accepted_by_answer h.state c a.event a.answer in
    let first = call_of_answer h.state c a.event a.answer in
    let next = fold after (after h a) later in
    subst (λ (cs : List Call). IsWaiting o c next (came ++ (more ++ acceptances c (after h a) later)) cs) (append_assoc calls first (calls_of c (after h a) later))
    (subst (λ (cs : List ℕ). IsWaiting o c next cs ((calls ++ first) ++ calls_of c (after h a) later)) (append_assoc came more (acceptances c (after h a) later))
    (events_wait o c (after h a) (came ++ more) (calls ++ first) later leaves inside (λ others. core (a ∷ others)) (λ others. fits (a ∷ others)) takes.1 refuses.1
    (waiting_then o c h came calls a leaves inside (core []) (core (a ∷ [])) (fits (a ∷ [])) takes.0 refuses.0 k)))

begun_waiting : (o : Opening) (c : ℕ) → IsWaiting o c (begun o) [] []
begun_waiting o c = record {
  made = begun_made o c;
  counted = refl;
  bounded = record { few = omega arith; most = omega arith };
  waits = waits_begun o.config.limits.intake (latency o.config) o.cycle;
}

pub run_waits : (o : Opening) (c : ℕ) (events : List Answered) → leaves_room o.config ≡ true → c < o.config.geometry.channels → TakesAllIn (begun o) events → RefusesIn (begun o) events
    → IsWaiting o c (run o events) (acceptances c (begun o) events) (calls_of c (begun o) events)
run_waits o c events leaves inside takes refuses = events_wait o c (begun o) [] [] events leaves inside (run_keeps o) (run_fits o) takes refuses (begun_waiting o c)
