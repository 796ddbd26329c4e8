-- What one event more makes of what the ledger of a replay tells.
use Rattle.std.proofs.Common.{◌≡◌, ◌≤◌, ◌<◌, ◌+◌, ℕ, suc, Bool, true, false, cond, eqb, List, [], ◌∷◌, ◌++◌, Option, Some, None, IfSome, Ok, Err, drop, length, take, refl, sym, ap, subst, ◌∙◌, inl, inr, arith}
use Rattle.std.specs.List.{fold, prefix_len, slice_get, slice_index_or, slice_set, take_while}
use Rattle.std.specs.Option.{is_some, option_map, option_map_or, option_and_then}
use Rattle.std.proofs.lemmas.Bool.{cases_lt, eq-eqb}
use Rattle.std.proofs.lemmas.List.{length-drop, length_push}
use Rattle.std.proofs.lemmas.List.Sums.{fold-append}
use Rattle.std.proofs.lemmas.Option.{slice_get_within}
use Rattle.circular_buffer.proofs.Places.{slice_get-drop, slice_get-last}
use Rattle.ddr_timing.specs.declared.config.Config.{Config}
use Rattle.ddr_address_map.specs.declared.request.Echo.{Echo}
use Rattle.ddr_address_map.specs.declared.request.Kind.{Kind}
use Rattle.ddr_address_map.specs.declared.request.Kind.TheVariants.{Read, Write}
use Rattle.ddr_address_map.specs.Map.{place_of}
use Rattle.ddr_address_map.specs.Requests.{Request}
use Rattle.ddr_channel.specs.Cycle.{service_time}
use Rattle.ddr_channel.specs.State as channel_state
use Rattle.ddr_channel.proofs.PlaceLemmas.{at_place}
use Rattle.ddr_reorder.specs.declared.reply.Service.{Service}
use Rattle.ddr_reorder.specs.Replies.{Answer, answer_of, filled_prefix, is_filled, lent_bytes, nth_answer, nth_service}
use Rattle.ddr_reorder.specs.State.{Outstanding}
use Rattle.ddr_ports.specs.Asked.{Asked, echo_of, first_address}
use Rattle.ddr_ports.specs.State.{refusal_of, request_at, request_with}
use Rattle.ddr_ports.specs.declared.refusal.PortError.{PortError}
use Rattle.ddr_rounds.proofs.EventLemmas.{front_released}
use Rattle.ddr_rounds.proofs.StepCounts.{at_port_has, at_channel_has, either_has, maybe_has}
use Rattle.ddr_world.specs.declared.event.Outcome.TheVariants as outcome
use Rattle.ddr_world.specs.declared.event.Refusal.TheVariants as refusal
use Rattle.ddr_world.specs.declared.item.Item.TheVariants as item
use Rattle.ddr_world.specs.Events.{Event, Submit, Release}
use Rattle.ddr_world.specs.History.{Answered, History, Whereabouts, accept, after, after_step, begun, front_of, give, note, request_of, run, with_next}
use Rattle.ddr_world.specs.Refusals.{refusal_from}
use Rattle.ddr_world.specs.Served.{WasServed, front_service}
use Rattle.ddr_world.specs.State.{ChannelSide, PortSide, State, is_busy}
use Rattle.ddr_world.specs.Step.{Made, Step, made, with_port, with_channel, queued, after_submit, push_on, push_request, submit_by, step}
use Rattle.ddr_world.proofs.CoreFrames.{before_or_last, with_next_other, with_next_same}
use Rattle.ddr_world.proofs.CoreKeeps.{CoreKeeps}
use Rattle.ddr_world.proofs.CoreReplies.{at_take, same_request, some_of_map, some_of_then}
use Rattle.ddr_world.proofs.CoreRuns.{run_keeps}
use Rattle.ddr_core_deadline.specs.InCore.{TakesAllIn, calls_of}
use Rattle.ddr_core_deadline.proofs.RoundLemmas.{Leads}
use Rattle.ddr_stream.specs.declared.ask.Ask.{Ask}
use Rattle.ddr_stream.specs.Asks.{asked_by, line_asked}
use Rattle.ddr_statistics.specs.declared.counts.Finding.{Finding}
use Rattle.ddr_ledger.specs.declared.released.ReleasedRequest.{ReleasedRequest}
use Rattle.ddr_ledger.specs.declared.times.Accepted.{Accepted}
use Rattle.ddr_ledger.specs.declared.times.Times.{Times}
use Rattle.ddr_ledger.specs.Ledgers.{Ledger, accepted_at, found_at, noted, oldest_found, times_at, with_accepted, with_oldest, with_times, without_oldest}
use Rattle.ddr_replay.specs.Runs.{accepted_in}
use Rattle.ddr_ledger.specs.Times.{count_of, no_times, timed}
use Rattle.ddr_replay_deadline.specs.InReplay.{replay_opening}
use Rattle.ddr_replay_deadline.specs.Waits.{accepted_by_answer, accepted_by_step, acceptances, clock_at, goes_to}
use Rattle.ddr_replay_deadline.proofs.AdmitLemmas.{there_is}
use Rattle.ddr_replay_deadline.proofs.FollowLemmas.{IsFollowedBy, run_followed}
use Rattle.ddr_replay_deadline.proofs.GrowthLemmas.{AreInner, acceptances_more, channel_at, inner_same}
use Rattle.ddr_replay_deadline.proofs.LedgerLemmas.{AreNumbered, IsAcceptedAt, IsLedger, IsPortTold, IsRow, accepted_still, count_noted, ledger_still, ledger_with, numbered_more, numbered_still, row_still, same_at, set_at, timed_count}
use Rattle.ddr_replay_deadline.proofs.NowLemmas.{AreNow, made_clocks}
use Rattle.ddr_replay_deadline.proofs.ServiceLemmas.{IsOwned}

-- by the events the core came to this state, in which each channel has this clock, and the ledger tells of its requests
pub record IsTold (config : Config) (clock : ℕ) (events : List Answered) (s : State) (lists : List (List Accepted)) (times : List Times) (keeps : Bool) (rows : List ReleasedRequest) : Type 0 where
  pub state : (run (replay_opening config) events).state ≡ s
  pub takes : TakesAllIn (begun (replay_opening config)) events
  pub clocks : AreNow clock s
  pub ledger : IsLedger config events lists times keeps rows

abbrev pub IsToldBy : Config → ℕ → List Answered → State → Ledger → Type 0
IsToldBy config clock events s ledger = IsTold config clock events s ledger.accepted ledger.ports ledger.keeps ledger.served

takes_then : (h : History) (xs ys : List Answered) → TakesAllIn h xs → TakesAllIn (fold after h xs) ys → TakesAllIn h (xs ++ ys)
takes_then h [] ys first second = second
takes_then h (a ∷ xs) ys first second = (first.0, takes_then (after h a) xs ys first.1 second)

followed : (config : Config) (clock : ℕ) (events : List Answered) (s : State) (lists : List (List Accepted)) (times : List Times) (keeps : Bool) (rows : List ReleasedRequest) → IsTold config clock events s lists times keeps rows → IsFollowedBy (replay_opening config) events
followed config clock events s lists times keeps rows k = run_followed (replay_opening config) events (omega arith) k.takes

-- events that neither submit nor release
pub inner_told : (config : Config) (clock clock' : ℕ) (events more : List Answered) (s next : State) (lists : List (List Accepted)) (times : List Times) (keeps : Bool) (rows : List ReleasedRequest) → IsTold config clock events s lists times keeps rows → Leads s more next → AreInner more
    → AreNow clock' next → IsTold config clock' (events ++ more) next lists times keeps rows
inner_told config clock clock' events more s next lists times keeps rows k leads inner now =
    let o = replay_opening config in
    let whole = fold-append after (begun o) events more in
    let led = leads (run o events) k.state in
    let same = inner_same (run o events) more inner in
    record {
      state = ap (λ (h : History). h.state) whole ∙ led.state;
      takes = takes_then (begun o) events more k.takes led.takes;
      clocks = now;
      ledger = ledger_still config events more lists times keeps rows (ap (λ (h : History). h.sent) whole ∙ same.0) (ap (λ (h : History). h.taken) whole ∙ same.1) k.ledger;
    }

-- one event that is made

abbrev one_made : Event → Made → List Answered
one_made event m = record { event = event; answer = Ok m.outcome } ∷ []

run_made : (config : Config) (events : List Answered) (s : State) (event : Event) (m : Made) → (run (replay_opening config) events).state ≡ s → step s event ≡ Ok m
    → run (replay_opening config) (events ++ one_made event m) ≡ record (note event (run (replay_opening config) events)) { state = m.state }
run_made config events s event m state is =
    let h = run (replay_opening config) events in
    fold-append after (begun (replay_opening config)) events (one_made event m) ∙ ap (after_step event h) (ap (λ (t : State). step t event) state ∙ is)

-- Submit

-- the request that a port submits, and the channel to which it goes
record IsSubmitted (s : State) (p : ℕ) (asked : Asked) : Type 0 where
  request : Request
  prepared : request_of s p asked ≡ Some request
  echo : request.echo ≡ echo_of asked
  side : ChannelSide
  there : slice_get s.channels request.place.channel ≡ Some side

abbrev Submits : State → ℕ → Asked → Step → Type 0
Submits s p asked (Ok m) = IsSubmitted s p asked
Submits s p asked (Err cause) = Unit {0}

submitted_of : (s : State) (p : ℕ) (asked : Asked) (port : PortSide) (r : Request) (side : ChannelSide) → slice_get s.ports p ≡ Some port → request_at port.core asked ≡ Some r → slice_get s.channels r.place.channel ≡ Some side → IsSubmitted s p asked
submitted_of s p asked port r side there prepared found =
    let made = some_of_map (request_with port.core asked) (place_of port.core.geometry (first_address asked)) r prepared in
    record {
      request = r;
      prepared = ap (λ (x : Option PortSide). option_and_then (λ s. request_at s.core asked) x) there ∙ prepared;
      echo = ap (λ (q : Request). q.echo) (sym made.2);
      side = side;
      there = found;
    }

step_submits : (s : State) (p : ℕ) (asked : Asked) → Submits s p asked (step s (Submit p asked))
step_submits s p asked = at_port_has (Submits s p asked) s p (submit_by s p asked) (slice_get s.ports p) refl tt (λ port there.
    maybe_has (Submits s p asked) (λ (cause : PortError). Err (refusal_from cause)) (option_map_or (push_request s p port asked) (request_at port.core asked) (Err refusal.OutOfRange)) (refusal_of port.core asked)
    (maybe_has (Submits s p asked) (push_request s p port asked) (Err refusal.OutOfRange) (request_at port.core asked) tt (λ r prepared.
    at_channel_has (Submits s p asked) s r.place.channel (push_on s p port asked r) (slice_get s.channels r.place.channel) refl tt (λ side found.
    either_has (Submits s p asked) (is_busy side) (Err (refusal.Busy r.place.channel)) (made (with_channel r.place.channel (queued (item.Request r) side) (with_port p (after_submit asked port) s)) (outcome.Accepted r.number)) tt
    (submitted_of s p asked port r side there prepared found))))
    (λ cause is. tt))

-- the clock of its acceptance comes behind those of its channel
came_then : (config : Config) (clock : ℕ) (events : List Answered) (s : State) (p : ℕ) (asked : Asked) (m : Made) (r : Request) (side : ChannelSide) → (run (replay_opening config) events).state ≡ s → step s (Submit p asked) ≡ Ok m
    → request_of s p asked ≡ Some r → slice_get s.channels r.place.channel ≡ Some side → side.channel.now ≡ clock
    → acceptances r.place.channel (begun (replay_opening config)) (events ++ one_made (Submit p asked) m) ≡ acceptances r.place.channel (begun (replay_opening config)) events ++ clock ∷ []
came_then config clock events s p asked m r side state is prepared there now =
    let o = replay_opening config in
    let h = run o events in
    let c = r.place.channel in
    let event = Submit p asked in
    let by_state : accepted_by_answer h.state c event (Ok m.outcome) ≡ accepted_by_answer s c event (Ok m.outcome) = ap (λ (t : State). accepted_by_answer t c event (Ok m.outcome)) state in
    let goes : goes_to s c p asked ≡ true = ap (λ (x : Option Request). option_map_or (λ (q : Request). eqb c q.place.channel) x false) prepared ∙ eq-eqb c c refl in
    let at : clock_at s c ≡ clock ∷ [] = ap (λ (x : Option ChannelSide). option_map_or (λ (z : ChannelSide). z.channel.now ∷ []) x []) there ∙ ap (λ n. n ∷ []) now in
    let one : accepted_by_answer s c event (Ok m.outcome) ≡ clock ∷ [] = ap (accepted_by_step s c event) is ∙ ap (λ b. cond b (clock_at s c) []) goes ∙ at in
    acceptances_more c (begun o) events (one_made event m) ∙ ap (λ (cs : List ℕ). acceptances c (begun o) events ++ (cs ++ [])) (by_state ∙ one)

accepted_now : (config : Config) (events more : List Answered) (p k clock : ℕ) (ask : Ask) (r : Request) (w : Whereabouts) → slice_get ((run (replay_opening config) (events ++ more)).sent p) k ≡ Some w
    → slice_get ((run (replay_opening config) (events ++ more)).accepted w.channel) w.place ≡ Some r → r.echo ≡ echo_of (asked_by ask) → slice_get (acceptances w.channel (begun (replay_opening config)) (events ++ more)) w.place ≡ Some clock
    → IsAcceptedAt config (events ++ more) p k (accepted_in clock ask)
accepted_now config events more p k clock ask r w sent there echo came = record { at = w; sent_at = sent; request = r; there = there; asked = echo; came = came }

pub submit_told : (config : Config) (clock : ℕ) (events : List Answered) (s : State) (ledger : Ledger) (p : ℕ) (ask : Ask) (m : Made) → p < config.limits.ports → IsToldBy config clock events s ledger → step s (Submit p (asked_by ask)) ≡ Ok m
    → IsToldBy config clock (events ++ record { event = Submit p (asked_by ask); answer = Ok m.outcome } ∷ []) m.state (with_accepted p (accepted_in clock ask) ledger)
submit_told config clock events s ledger p ask m inside k is =
    let o = replay_opening config in
    let h = run o events in
    let event = Submit p (asked_by ask) in
    let more = one_made event m in
    let submitted : IsSubmitted s p (asked_by ask) = subst (Submits s p (asked_by ask)) is (step_submits s p (asked_by ask)) in
    let r = submitted.request in
    let c = r.place.channel in
    let w : Whereabouts = record { channel = c; place = length (h.accepted c) } in
    let prepared : request_of h.state p (asked_by ask) ≡ Some r = ap (λ (t : State). request_of t p (asked_by ask)) k.state ∙ submitted.prepared in
    let whole : run o (events ++ more) ≡ record (accept p h r) { state = m.state } = run_made config events s event m k.state is ∙ ap (λ (x : Option Request). record (option_map_or (accept p h) x h) { state = m.state }) prepared in
    let sent : (run o (events ++ more)).sent ≡ with_next h.sent p w = ap (λ (x : History). x.sent) whole in
    let taken : (run o (events ++ more)).taken ≡ h.taken = ap (λ (x : History). x.taken) whole in
    let accepted : (run o (events ++ more)).accepted ≡ with_next h.accepted c r = ap (λ (x : History). x.accepted) whole in
    let sent_p : (run o (events ++ more)).sent p ≡ h.sent p ++ w ∷ [] = ap (λ (f : ℕ → List Whereabouts). f p) sent ∙ with_next_same h.sent p w in
    let taken_p : length ((run o (events ++ more)).taken p) ≡ length (h.taken p) = ap (λ (f : ℕ → List Answer). length (f p)) taken in
    let by = followed config clock events s ledger.accepted ledger.ports ledger.keeps ledger.served k in
    let there : slice_get h.state.channels c ≡ Some submitted.side = ap (λ (t : State). slice_get t.channels c) k.state ∙ submitted.there in
    let room : c < config.geometry.channels = omega (arith, slice_get_within h.state.channels c submitted.side there, (run_keeps o events).channels_are) in
    let came : slice_get (acceptances c (begun o) (events ++ more)) (length (h.accepted c)) ≡ Some clock =
    ap (λ (cs : List ℕ). slice_get cs (length (h.accepted c))) (came_then config clock events s p (asked_by ask) m r submitted.side k.state is submitted.prepared submitted.there (k.clocks c submitted.side submitted.there))
    ∙ slice_get-last (acceptances c (begun o) events) clock (length (h.accepted c)) (sym (by.counted c room)) in
    let there_now : slice_get ((run o (events ++ more)).accepted c) (length (h.accepted c)) ≡ Some r =
    ap (λ (f : ℕ → List Request). slice_get (f c) (length (h.accepted c))) accepted ∙ ap (λ (rs : List Request). slice_get rs (length (h.accepted c))) (with_next_same h.accepted c r)
    ∙ slice_get-last (h.accepted c) r (length (h.accepted c)) refl in
    let old = accepted_at ledger p in
    let told = k.ledger.ports p inside in
    let a = accepted_in clock ask in
    let last : IsAcceptedAt config (events ++ more) p (length (h.taken p) + length old) a =
    accepted_now config events more p (length (h.taken p) + length old) clock ask r w
    (ap (λ (ws : List Whereabouts). slice_get ws (length (h.taken p) + length old)) sent_p ∙ slice_get-last (h.sent p) w (length (h.taken p) + length old) (omega (arith, told.counted))) there_now submitted.echo came in
    let each : (q : ℕ) (x : Accepted) → slice_get (old ++ a ∷ []) q ≡ Some x → IsAcceptedAt config (events ++ more) p (length ((run o (events ++ more)).taken p) + q) x =
    λ q x at. subst (λ n. IsAcceptedAt config (events ++ more) p (n + q) x) (sym taken_p) (elim (before_or_last old a x q at) [
      | inl before ↦ accepted_still config events more p (length (h.taken p) + q) x (told.each q x before)
      | inr new ↦ subst (λ (y : Accepted). IsAcceptedAt config (events ++ more) p (length (h.taken p) + q) y) (sym new.1)
          (subst (λ n. IsAcceptedAt config (events ++ more) p (length (h.taken p) + n) a) (sym new.0) last)
    ]) in
    let port : IsPortTold config (events ++ more) (old ++ a ∷ []) (times_at ledger p) p = record {
      counted = omega (arith, length_push old a, taken_p, told.counted, ap (λ (ws : List Whereabouts). length ws) sent_p, length_push (h.sent p) w);
      each = each;
      many = told.many ∙ sym taken_p;
    } in
    record {
      state = ap (λ (x : History). x.state) whole;
      takes = takes_then (begun o) events more k.takes (tt, tt);
      clocks = made_clocks (λ i now. now ≡ clock) s m.state event m.outcome tt is k.clocks;
      ledger = ledger_with config events more ledger.accepted (slice_set ledger.accepted p (old ++ a ∷ [])) ledger.ports ledger.ports ledger.keeps ledger.served ledger.served p (old ++ a ∷ []) (times_at ledger p) k.ledger
          (set_at ledger.accepted p [] (old ++ a ∷ []) (omega (arith, inside, k.ledger.lists_are))) (same_at ledger.ports p no_times)
          (λ q other. ap (λ (f : ℕ → List Whereabouts). f q) sent ∙ with_next_other h.sent p w q other) (λ q other. ap (λ (f : ℕ → List Answer). f q) taken) port (λ i row at. row_still config events more row (k.ledger.each i row at))
          (λ kept. numbered_still config events more ledger.served taken (k.ledger.numbered kept));
    }

-- Release

-- the reply in front of a port
record IsFront (s : State) (p : ℕ) (v : Service) : Type 0 where
  port : PortSide
  there : slice_get s.ports p ≡ Some port
  entry : Outstanding
  first : slice_get port.core.reorder.outstanding 0 ≡ Some entry
  service : entry.service ≡ Some v
  answer : Answer
  front : front_of s p ≡ Some answer

filled_first : (xs : List Outstanding) (e : Outstanding) → slice_get (take_while is_filled xs) 0 ≡ Some e → is_filled e ≡ true
filled_first [] e at = absurd (let impossible = at in cc)
filled_first (x ∷ xs) e at = by_test (is_filled x) refl at
  where
    by_test : (b : Bool) → is_filled x ≡ b → slice_get (take (cond b (1 + prefix_len is_filled xs) 0) (x ∷ xs)) 0 ≡ Some e → is_filled e ≡ true
    by_test true is at =
        let there : slice_get (x ∷ xs) 0 ≡ Some e = at_take _ (x ∷ xs) 0 e at in
        let same : x ≡ e = cc in
        subst (λ (y : Outstanding). is_filled y ≡ true) same is
    by_test false is at = absurd (let impossible = at in cc)

filled_answer : (e : Outstanding) (line : Option (List ℕ)) → is_some line ≡ true → (a : Answer) × (option_map (λ l. record { number = e.number; echo = e.echo; bytes = lent_bytes e.echo l }) line ≡ Some a)
filled_answer e None is = absurd (let impossible = is in cc)
filled_answer e (Some l) is = (record { number = e.number; echo = e.echo; bytes = lent_bytes e.echo l }, refl)

front_there : (s : State) (p : ℕ) (v : Service) → front_service s p ≡ Some v → IsFront s p v
front_there s p v is =
    let found = some_of_then (λ (port : PortSide). nth_service port.core.reorder 0) (slice_get s.ports p) v is in
    let port = found.0 in
    let told = some_of_then (λ (o : Outstanding). o.service) (slice_get (filled_prefix port.core.reorder) 0) v found.2 in
    let answer = filled_answer told.0 told.0.line (filled_first port.core.reorder.outstanding told.0 told.1) in
    record {
      port = port;
      there = found.1;
      entry = told.0;
      first = at_take _ port.core.reorder.outstanding 0 told.0 told.1;
      service = told.2;
      answer = answer.0;
      front =
          ap (λ (x : Option PortSide). option_and_then (λ (y : PortSide). nth_answer y.core.reorder 0) x) found.1
          ∙ ap (λ (x : Option Outstanding). option_and_then answer_of x) told.1
          ∙ answer.1;
    }

line_kind : (kind : Kind) (addr : ℕ) → (echo_of (line_asked kind addr)).kind ≡ kind
line_kind Read addr = refl
line_kind Write addr = refl

service_some : (config : Config) (kind : Kind) → 1 ≤ service_time config kind
service_some config Read = omega arith
service_some config Write = omega arith

-- there is such a channel
pub channel_inside : (config : Config) (events : List Answered) (c place : ℕ) (r : Request) → slice_get ((run (replay_opening config) events).accepted c) place ≡ Some r → c < config.geometry.channels
channel_inside config events c place r there = elim (cases_lt c (length h.state.channels)) [
  | inl inside ↦ omega (arith, inside, core.channels_are)
  | inr outside ↦ absurd (let none : slice_get [] place ≡ Some r = ap (λ (rs : List Request). slice_get rs place) (sym (core.no_channel c outside).0) ∙ there in let impossible = none in cc)
]
  where
    h : History
    h = run (replay_opening config) events

    core : CoreKeeps (replay_opening config) h
    core = run_keeps (replay_opening config) events

-- the clock of each channel, as its calls make it
told_clock : (config : Config) (clock : ℕ) (events : List Answered) (s : State) (lists : List (List Accepted)) (times : List Times) (keeps : Bool) (rows : List ReleasedRequest) (c : ℕ) → IsTold config clock events s lists times keeps rows → c < config.geometry.channels
    → (channel_at (replay_opening config) (calls_of c (begun (replay_opening config)) events)).state.now ≡ clock
told_clock config clock events s lists times keeps rows c k inside =
    let o = replay_opening config in
    let h = run o events in
    let channel = there_is o c h (run_keeps o events) inside in
    let made = ((followed config clock events s lists times keeps rows k).made c channel.0 channel.1).state in
    let at : slice_get s.channels c ≡ Some channel.0 = ap (λ (t : State). slice_get t.channels c) (sym k.state) ∙ channel.1 in
    sym (ap (λ (t : channel_state.State). t.now) made) ∙ k.clocks c channel.0 at

-- the row of the port's oldest request, as its reply is released
abbrev row_for : ℕ → ℕ → Service → Accepted → Times → Option Finding → ReleasedRequest
row_for p clock v x times found = record { ask = x.ask; port = p; number = count_of times; accepted = x.round; issued = v.issued; due = v.due; released = clock; found = found }

-- how many replies the port released
taken_few : (config : Config) (events : List Answered) (p : ℕ) (port : PortSide) → IsFollowedBy (replay_opening config) events → slice_get (run (replay_opening config) events).state.ports p ≡ Some port
    → length ((run (replay_opening config) events).taken p) < 18446744073709551615
taken_few config events p port by there =
    let keeps = (run_keeps (replay_opening config) events).ports p port there in
    omega (arith, keeps.counted, keeps.next, (by.served p port there).few)

row_told : (config : Config) (clock : ℕ) (events : List Answered) (s : State) (lists : List (List Accepted)) (times : List Times) (keeps : Bool) (rows : List ReleasedRequest) (p : ℕ) (v : Service) (x : Accepted) (found : Option Finding) → IsTold config (clock + 1) events s lists times keeps rows
    → p < config.limits.ports → IsFront s p v → slice_get (slice_index_or lists p []) 0 ≡ Some x → IsRow config events (row_for p clock v x (slice_index_or times p no_times) found)
row_told config clock events s lists times keeps rows p v x found k inside front oldest =
    let o = replay_opening config in
    let h = run o events in
    let core = run_keeps o events in
    let by = followed config (clock + 1) events s lists times keeps rows k in
    let n = length (h.taken p) + 0 in
    let there : slice_get h.state.ports p ≡ Some front.port = ap (λ (t : State). slice_get t.ports p) k.state ∙ front.there in
    let owned : IsOwned o (h.sent p) (λ c. calls_of c (begun o) events) n v = (by.served p front.port there).filled 0 front.entry v front.first front.service in
    let port = k.ledger.ports p inside in
    let told = port.each 0 x oldest in
    let settled = (core.ports p front.port there).settled 0 front.entry front.first in
    let served : WasServed config h.state front.entry.echo v =
    subst (λ (y : Option Service). IfSome y (WasServed config h.state front.entry.echo)) front.service ((core.served p front.port there).filled 0 front.entry front.first) in
    let sent = core.sent p n owned.at owned.sent_at in
    let c = owned.at.channel in
    let both : Some told.at ≡ Some owned.at = sym told.sent_at ∙ owned.sent_at in
    let same : told.at ≡ owned.at = cc in
    let r = told.request in
    let here : slice_get (h.accepted c) owned.at.place ≡ Some r = subst (λ (w : Whereabouts). slice_get (h.accepted w.channel) w.place ≡ Some r) same told.there in
    let came : slice_get (acceptances c (begun o) events) owned.at.place ≡ Some x.round = subst (λ (w : Whereabouts). slice_get (acceptances w.channel (begun o) events) w.place ≡ Some x.round) same told.came in
    let one = same_request h.accepted (h.sent p) n n owned.at owned.at sent.request r refl owned.sent_at owned.sent_at sent.there here in
    let other = same_request h.accepted (h.sent p) n n settled.at owned.at settled.settled.request r refl settled.sent_at owned.sent_at settled.settled.there here in
    let echo : front.entry.echo ≡ echo_of (asked_by x.ask) = settled.settled.echo ∙ ap (λ (q : Request). q.echo) other.1 ∙ told.asked in
    let kind : front.entry.echo.kind ≡ x.ask.kind = ap (λ (e : Echo). e.kind) echo ∙ line_kind x.ask.kind x.ask.addr in
    let due : v.due ≡ v.issued + service_time config x.ask.kind = served.due ∙ ap (λ y. v.issued + service_time config y) kind in
    let number : count_of (slice_index_or times p no_times) ≡ length (h.taken p) = count_noted (length (h.taken p)) (slice_index_or times p no_times) port.many (taken_few config events p front.port by there) in
    let at_number : n ≡ count_of (slice_index_or times p no_times) = omega (arith, number) in
    let room = channel_inside config events c owned.at.place r here in
    let now = told_clock config (clock + 1) events s lists times keeps rows c k room in
    let late : x.round ≤ owned.owner.cycle = (by.late c room).late owned.column x.round owned.owner owned.owned (ap (λ i. slice_get (acceptances c (begun o) events) i) owned.place ∙ came) in
    record {
      is_row = record {
        at = owned.at;
        sent = ap (λ i. slice_get (h.sent p) i) (sym at_number) ∙ owned.sent_at;
        request = r;
        there = here;
        asked = told.asked;
        port = ap (λ (q : Request). q.port) (sym one.1) ∙ sent.port;
        number = omega (arith, sent.number, ap (λ (q : Request). q.number) one.1, at_number);
        accepted = came;
        column = owned.column;
        owner = owned.owner;
        owned = owned.owned;
        place = owned.place;
        issued = owned.issued;
        due = due;
      };
      in_order = record {
        issued = omega (arith, late, owned.issued);
        due = omega (arith, due, service_some config x.ask.kind);
        released = omega (arith, owned.complete, now);
      };
    }

released_port : (config : Config) (clock : ℕ) (events more : List Answered) (p : ℕ) (v : Service) (x : Accepted) (accepted : List Accepted) (times : Times) (a : Answer) → IsPortTold config events accepted times p → slice_get accepted 0 ≡ Some x
    → length ((run (replay_opening config) events).taken p) < 18446744073709551615 → (run (replay_opening config) (events ++ more)).sent p ≡ (run (replay_opening config) events).sent p
    → (run (replay_opening config) (events ++ more)).taken p ≡ (run (replay_opening config) events).taken p ++ a ∷ [] → IsPortTold config (events ++ more) (drop 1 accepted) (timed x v.issued clock times) p
released_port config clock events more p v x accepted times a k first few sent taken =
    let o = replay_opening config in
    let h = run o events in
    let longer : length ((run o (events ++ more)).taken p) ≡ length (h.taken p) + 1 = ap (λ (ts : List Answer). length ts) taken ∙ length_push (h.taken p) a in
    record {
      counted = omega (arith, k.counted, longer, length-drop 1 accepted, slice_get_within accepted 0 x first, ap (λ (ws : List Whereabouts). length ws) sent);
      each = λ q y at.
          let index : length (h.taken p) + suc q ≡ length ((run o (events ++ more)).taken p) + q = omega (arith, longer) in
          subst (λ n. IsAcceptedAt config (events ++ more) p n y) index
          (accepted_still config events more p (length (h.taken p) + suc q) y (k.each (suc q) y (sym (slice_get-drop 1 accepted q (suc q) (omega arith)) ∙ at)));
      many = timed_count x v.issued clock (length (h.taken p)) times k.many few ∙ sym longer;
    }

-- the row is kept, or it is not
kept_or_not : (config : Config) (now : ℕ) (events : List Answered) (next : State) (ledger : Ledger) (p : ℕ) (v : Service) (clock : ℕ) (x : Accepted) (y : Option Accepted) → y ≡ Some x
    → (ledger.keeps ≡ false → IsTold config now events next (slice_set ledger.accepted p (drop 1 (accepted_at ledger p))) (slice_set ledger.ports p (timed x v.issued clock (times_at ledger p))) ledger.keeps ledger.served)
    → IsTold config now events next (slice_set ledger.accepted p (drop 1 (accepted_at ledger p))) (slice_set ledger.ports p (timed x v.issued clock (times_at ledger p))) ledger.keeps (ledger.served ++ row_for p clock v x (times_at ledger p) (oldest_found (found_at ledger p)) ∷ [])
    → IsToldBy config now events next (with_oldest p v clock y (without_oldest p ledger))
kept_or_not config now events next ledger p v clock x y oldest without with_it =
    subst (λ (z : Option Accepted). IsToldBy config now events next (with_oldest p v clock z (without_oldest p ledger))) (sym oldest) (by_keeps ledger.keeps refl)
  where
    by_keeps : (b : Bool) → ledger.keeps ≡ b → IsToldBy config now events next (with_times p v.issued clock x
        (cond b (record (without_oldest p ledger) { served = ledger.served ++ row_for p clock v x (times_at ledger p) (oldest_found (found_at ledger p)) ∷ [] }) (without_oldest p ledger)))
    by_keeps true is = with_it
    by_keeps false is = without is

pub release_told : (config : Config) (clock : ℕ) (events : List Answered) (s : State) (ledger : Ledger) (p : ℕ) (v : Service) → p < config.limits.ports → IsToldBy config (clock + 1) events s ledger → front_service s p ≡ Some v
    → (m : Made) × (step s (Release p) ≡ Ok m) × IsToldBy config (clock + 1) (events ++ record { event = Release p; answer = Ok m.outcome } ∷ []) m.state (noted p v clock ledger)
release_told config clock events s ledger p v inside k is =
    let o = replay_opening config in
    let h = run o events in
    let front = front_there s p v is in
    let made = front_released s p front.answer front.front in
    let m = made.0 in
    let more = one_made (Release p) m in
    let by = followed config (clock + 1) events s ledger.accepted ledger.ports ledger.keeps ledger.served k in
    let given : front_of h.state p ≡ Some front.answer = ap (λ (t : State). front_of t p) k.state ∙ front.front in
    let whole : run o (events ++ more) ≡ record (give p h front.answer) { state = m.state } = run_made config events s (Release p) m k.state made.1 ∙ ap (λ (x : Option Answer). record (option_map_or (give p h) x h) { state = m.state }) given in
    let sent : (run o (events ++ more)).sent ≡ h.sent = ap (λ (x : History). x.sent) whole in
    let taken : (run o (events ++ more)).taken ≡ with_next h.taken p front.answer = ap (λ (x : History). x.taken) whole in
    let there : slice_get h.state.ports p ≡ Some front.port = ap (λ (t : State). slice_get t.ports p) k.state ∙ front.there in
    let keeps = (run_keeps o events).ports p front.port there in
    let told = k.ledger.ports p inside in
    let oldest = at_place (accepted_at ledger p) 0 (omega (arith, told.counted, keeps.counted, slice_get_within front.port.core.reorder.outstanding 0 front.entry front.first)) in
    let x = oldest.0 in
    let row = row_for p clock v x (times_at ledger p) (oldest_found (found_at ledger p)) in
    let is_row : IsRow config (events ++ more) row = row_still config events more row (row_told config clock events s ledger.accepted ledger.ports ledger.keeps ledger.served p v x (oldest_found (found_at ledger p)) k inside front oldest.1) in
    let times = timed x v.issued clock (times_at ledger p) in
    let port = released_port config clock events more p v x (accepted_at ledger p) (times_at ledger p) front.answer told oldest.1 (taken_few config events p front.port by there) (ap (λ (f : ℕ → List Whereabouts). f p) sent)
    (ap (λ (f : ℕ → List Answer). f p) taken ∙ with_next_same h.taken p front.answer) in
    let next : (rows : List ReleasedRequest) → ((i : ℕ) (y : ReleasedRequest) → slice_get rows i ≡ Some y → IsRow config (events ++ more) y) → (ledger.keeps ≡ true → AreNumbered config (events ++ more) rows)
    → IsTold config (clock + 1) (events ++ more) m.state (slice_set ledger.accepted p (drop 1 (accepted_at ledger p))) (slice_set ledger.ports p times) ledger.keeps rows =
    λ rows all numbered. record {
      state = ap (λ (y : History). y.state) whole;
      takes = takes_then (begun o) events more k.takes (tt, tt);
      clocks = made_clocks (λ i now. now ≡ clock + 1) s m.state (Release p) m.outcome tt made.1 k.clocks;
      ledger = ledger_with config events more ledger.accepted (slice_set ledger.accepted p (drop 1 (accepted_at ledger p))) ledger.ports (slice_set ledger.ports p times) ledger.keeps ledger.served rows p (drop 1 (accepted_at ledger p)) times k.ledger
          (set_at ledger.accepted p [] (drop 1 (accepted_at ledger p)) (omega (arith, inside, k.ledger.lists_are))) (set_at ledger.ports p no_times times (omega (arith, inside, k.ledger.times_are)))
          (λ q other. ap (λ (f : ℕ → List Whereabouts). f q) sent) (λ q other. ap (λ (f : ℕ → List Answer). f q) taken ∙ with_next_other h.taken p front.answer q other) port all numbered;
    } in
    let was : (i : ℕ) (y : ReleasedRequest) → slice_get ledger.served i ≡ Some y → IsRow config (events ++ more) y = λ i y at. row_still config events more y (k.ledger.each i y at) in
    let with_row : (i : ℕ) (y : ReleasedRequest) → slice_get (ledger.served ++ row ∷ []) i ≡ Some y → IsRow config (events ++ more) y = λ i y at. elim (before_or_last ledger.served row y i at) [
      | inl before ↦ was i y before
      | inr last ↦ subst (λ (z : ReleasedRequest). IsRow config (events ++ more) z) (sym last.1) is_row
    ] in
    let number : row.number ≡ length (h.taken p) = count_noted (length (h.taken p)) (times_at ledger p) told.many (taken_few config events p front.port by there) in
    let longer : length ((run o (events ++ more)).taken p) ≡ length (h.taken p) + 1 = ap (λ (f : ℕ → List Answer). length (f p)) taken ∙ ap (λ (ts : List Answer). length ts) (with_next_same h.taken p front.answer) ∙ length_push (h.taken p) front.answer in
    let numbered : ledger.keeps ≡ true → AreNumbered config (events ++ more) (ledger.served ++ row ∷ []) =
    λ kept. numbered_more config events more ledger.served row longer number (λ q other. ap (λ (f : ℕ → List Answer). f q) taken ∙ with_next_other h.taken p front.answer q other) (k.ledger.numbered kept) in
    let without = λ (never : ledger.keeps ≡ false). next ledger.served was (λ kept. absurd (let impossible : true ≡ false = sym kept ∙ never in cc)) in
    let with_it = next (ledger.served ++ row ∷ []) with_row numbered in
    (m, made.1, kept_or_not config (clock + 1) (events ++ more) m.state ledger p v clock x (slice_get (accepted_at ledger p) 0) oldest.1 without with_it)
