-- One request after another is submitted, until one has to wait.
use Rattle.std.proofs.Common.{◌≡◌, ◌≢◌, ◌<◌, ◌≤◌, ◌⊎◌, ◌+◌, ℕ, zero, suc, Bool, true, false, cond, List, [], ◌∷◌, Option, None, Some, Result, Ok, Err, IfSome, inl, inr, length, drop, refl, sym, ap, ap₂, subst, ◌∙◌, arith}
use Rattle.std.specs.Prelude.{nat_lt}
use Rattle.std.specs.Option.{option_map_or}
use Rattle.std.specs.List.{slice_get, slice_set}
use Rattle.std.proofs.lemmas.Bool.{lt-ltb, le-ltb}
use Rattle.std.proofs.lemmas.List.{get_or-set_other, length-drop, set-get_or}
use Rattle.ddr_timing.specs.declared.config.Config.{Config}
use Rattle.ddr_address_map.specs.Requests.{Request}
use Rattle.ddr_ports.specs.Asked.{Asked}
use Rattle.ddr_ports.specs.State.{refusal_of, request_at}
use Rattle.ddr_ports.specs.declared.refusal.PortError.{PortError}
use Rattle.ddr_ports.specs.declared.refusal.PortError.TheVariants as cause
use Rattle.ddr_world.specs.declared.event.Outcome.{Outcome}
use Rattle.ddr_world.specs.declared.event.Outcome.TheVariants as outcome
use Rattle.ddr_world.specs.declared.event.Refusal.{Refusal}
use Rattle.ddr_world.specs.declared.event.Refusal.TheVariants as refusal
use Rattle.ddr_world.specs.declared.item.Item.TheVariants as item
use Rattle.ddr_world.specs.Events.{Submit}
use Rattle.ddr_world.specs.Refusals.{refusal_from}
use Rattle.ddr_world.specs.State.{PortSide, State, is_busy}
use Rattle.ddr_world.specs.Step.{Step, after_submit, made, push_on, push_request, queued, step, submit, submit_by, with_channel, with_port}
use Rattle.ddr_rounds.specs.Rounds.{outstanding}
use Rattle.ddr_rounds.proofs.StepCounts.{Counted, at_channel_has, at_port_has, either_has, made_counts, maybe_has}
use Rattle.ddr_stream.specs.declared.ask.Ask.{Ask}
use Rattle.ddr_stream.specs.Asks.{asked_by}
use Rattle.ddr_stream.specs.Stream.{Queues, queue_at}
use Rattle.ddr_stream.specs.Waiting.{All, IsSized, Knows, Waiting, all_in, dropped, popped}
use Rattle.ddr_stream.proofs.AllLemmas.{all_first, all_popped, all_popped_fault, all_sized}
use Rattle.ddr_text.specs.declared.fault.Fault.{Fault}
use Rattle.ddr_replay.specs.Ahead.{Carries, IsSubmitted}
use Rattle.ddr_ledger.specs.Ledgers.{Ledger, with_accepted, with_wait}
use Rattle.ddr_replay.specs.Runs.{Submitted, accepted_in, after_answer, submitted}
use Rattle.ddr_replay.specs.Waits.{IsFull, IsWaiting}
use Rattle.ddr_replay.proofs.AheadLemmas.{carries_same, same_itself}

-- the first request

same_first : (a b : Ask) → ◌≡◌ {A = Option Ask} (Some a) (Some b) → a ≡ b
same_first a b is = ap (λ (o : Option Ask). option_map_or (λ (x : Ask). x) o a) is

pub some_left : (queue : List Ask) (ask : Ask) → Some ask ≡ slice_get queue 0 → length queue ≡ length (drop 1 queue) + 1
some_left [] ask is = absurd (let impossible = is in cc)
some_left (x ∷ xs) ask is = omega (arith, length-drop 1 (x ∷ xs))

abbrev stays : State → Ledger → List Ask → Submitted
stays s ledger queue = record { state = s; ledger = ledger; rest = queue }

abbrev waits : ℕ → State → Ledger → List Ask → Refusal → Submitted
waits p s ledger queue cause = stays s (with_wait p cause ledger) queue

-- on with the others, behind one that is accepted
abbrev onward : ℕ → ℕ → Ask → List Ask → Ledger → State → Submitted
onward p round ask more ledger next = submitted p round more next (with_accepted p (accepted_in round ask) ledger)

submitted_by : (p round : ℕ) (queue : List Ask) (ask : Ask) (s : State) (ledger : Ledger) → Some ask ≡ slice_get queue 0
    → submitted p round queue s ledger ≡ cond (nat_lt round ask.at) (stays s ledger queue) (after_answer (onward p round ask (drop 1 queue) ledger) (waits p s ledger queue) (step s (Submit p (asked_by ask))))
submitted_by p round [] ask s ledger is = absurd (let impossible = is in cc)
submitted_by p round (x ∷ more) ask s ledger is =
    ap (λ (y : Ask). cond (nat_lt round y.at) (stays s ledger (x ∷ more)) (after_answer (onward p round y more ledger) (waits p s ledger (x ∷ more)) (step s (Submit p (asked_by y))))) (sym (same_first ask x is))

submitted_now : (p round : ℕ) (queue : List Ask) (ask : Ask) (s : State) (ledger : Ledger) → Some ask ≡ slice_get queue 0 → ask.at ≤ round
    → submitted p round queue s ledger ≡ after_answer (onward p round ask (drop 1 queue) ledger) (waits p s ledger queue) (step s (Submit p (asked_by ask)))
submitted_now p round queue ask s ledger is come =
    submitted_by p round queue ask s ledger is
    ∙ ap (λ b. cond b (stays s ledger queue) (after_answer (onward p round ask (drop 1 queue) ledger) (waits p s ledger queue) (step s (Submit p (asked_by ask))))) (le-ltb round ask.at come)

-- it is accepted
pub submitted_more : (p round : ℕ) (queue : List Ask) (ask : Ask) (s next : State) (ledger : Ledger) (o : Outcome) → Some ask ≡ slice_get queue 0 → ask.at ≤ round → step s (Submit p (asked_by ask)) ≡ made next o
    → submitted p round (drop 1 queue) next (with_accepted p (accepted_in round ask) ledger) ≡ submitted p round queue s ledger
submitted_more p round queue ask s next ledger o is come accepted =
    sym (submitted_now p round queue ask s ledger is come ∙ ap (after_answer (onward p round ask (drop 1 queue) ledger) (waits p s ledger queue)) accepted)

-- it is refused
pub submitted_refused : (p round : ℕ) (queue : List Ask) (ask : Ask) (s : State) (ledger : Ledger) (cause : Refusal) → Some ask ≡ slice_get queue 0 → ask.at ≤ round → step s (Submit p (asked_by ask)) ≡ Err cause
    → submitted p round queue s ledger ≡ record { state = s; ledger = with_wait p cause ledger; rest = queue }
submitted_refused p round queue ask s ledger cause is come refused =
    submitted_now p round queue ask s ledger is come ∙ ap (after_answer (onward p round ask (drop 1 queue) ledger) (waits p s ledger queue)) refused

-- it is for later
pub submitted_later : (p round : ℕ) (queue : List Ask) (ask : Ask) (s : State) (ledger : Ledger) → Some ask ≡ slice_get queue 0 → round < ask.at → submitted p round queue s ledger ≡ record { state = s; ledger = ledger; rest = queue }
submitted_later p round queue ask s ledger is later =
    submitted_by p round queue ask s ledger is
    ∙ ap (λ b. cond b (stays s ledger queue) (after_answer (onward p round ask (drop 1 queue) ledger) (waits p s ledger queue) (step s (Submit p (asked_by ask))))) (lt-ltb round ask.at later)

-- there is none
pub submitted_none : (p round : ℕ) (queue : List Ask) (s : State) (ledger : Ledger) → None ≡ slice_get queue 0 → submitted p round queue s ledger ≡ record { state = s; ledger = ledger; rest = queue }
submitted_none p round [] s ledger is = refl
submitted_none p round (x ∷ more) s ledger is = absurd (let impossible = is in cc)

-- a port whose window is full

abbrev NotFull : Step → Type 0
NotFull r = r ≡ Err refusal.WindowFull → ⊥

window_cause : (c : PortError) → ◌≡◌ {A = Step} (Err (refusal_from c)) (Err refusal.WindowFull) → c ≡ cause.WindowFull
window_cause cause.WindowFull is = refl
window_cause cause.Finished is = absurd (let impossible = is in cc)
window_cause cause.OutOfRange is = absurd (let impossible = is in cc)
window_cause cause.EmptyLength is = absurd (let impossible = is in cc)
window_cause cause.CrossesLine is = absurd (let impossible = is in cc)
window_cause cause.Spent is = absurd (let impossible = is in cc)

pushed_not_full : (s : State) (p : ℕ) (port : PortSide) (asked : Asked) (o : Option Request) → NotFull (option_map_or (push_request s p port asked) o (Err refusal.OutOfRange))
pushed_not_full s p port asked o =
    maybe_has NotFull (push_request s p port asked) (Err refusal.OutOfRange) o (λ is. let impossible = is in cc) (λ r prepared.
    at_channel_has NotFull s r.place.channel (push_on s p port asked r) (slice_get s.channels r.place.channel) refl (λ is. let impossible = is in cc) (λ side found.
    either_has NotFull (is_busy side) (Err (refusal.Busy r.place.channel)) (made (with_channel r.place.channel (queued (item.Request r) side) (with_port p (after_submit asked port) s)) (outcome.Accepted r.number))
    (λ is. let impossible = is in cc) (λ is. let impossible = is in cc)))

refused_by_port : (s : State) (p : ℕ) (port : PortSide) (ask : Ask) (o : Option PortError) → refusal_of port.core (asked_by ask) ≡ o → slice_get s.ports p ≡ Some port
    → option_map_or (λ (c : PortError). Err (refusal_from c)) o (option_map_or (push_request s p port (asked_by ask)) (request_at port.core (asked_by ask)) (Err refusal.OutOfRange)) ≡ Err refusal.WindowFull → IsFull p ask s
refused_by_port s p port ask None refused there is = absurd (pushed_not_full s p port (asked_by ask) (request_at port.core (asked_by ask)) is)
refused_by_port s p port ask (Some c) refused there is = record { port = port; there = there; full = refused ∙ ap (λ x. Some x) (window_cause c is) }

refused_there : (s : State) (p : ℕ) (ask : Ask) (o : Option PortSide) → slice_get s.ports p ≡ o → option_map_or (submit_by s p (asked_by ask)) o (Err refusal.NoSuch) ≡ Err refusal.WindowFull → IsFull p ask s
refused_there s p ask None there is = absurd (let impossible = is in cc)
refused_there s p ask (Some port) there is = refused_by_port s p port ask (refusal_of port.core (asked_by ask)) refl there is

pub full_of : (s : State) (p : ℕ) (ask : Ask) → step s (Submit p (asked_by ask)) ≡ Err refusal.WindowFull → IsFull p ask s
full_of s p ask is = refused_there s p ask (slice_get s.ports p) refl is

-- it is refused again
pub refused_full : (s : State) (p : ℕ) (ask : Ask) → IsFull p ask s → step s (Submit p (asked_by ask)) ≡ Err refusal.WindowFull
refused_full s p ask is =
    ap (λ o. option_map_or (submit_by s p (asked_by ask)) o (Err refusal.NoSuch)) is.there
    ∙ ap (λ o. option_map_or (λ (c : PortError). Err (refusal_from c)) o (option_map_or (push_request s p is.port (asked_by ask)) (request_at is.port.core (asked_by ask)) (Err refusal.OutOfRange))) is.full

-- a request that is accepted is one more that is outstanding

abbrev IsAccepted : Step → Type 0
IsAccepted (Ok m) = (number : ℕ) × (m.outcome ≡ outcome.Accepted number)
IsAccepted (Err c) = Unit {0}

submit_accepts : (s : State) (p : ℕ) (asked : Asked) → IsAccepted (submit s p asked)
submit_accepts s p asked = at_port_has IsAccepted s p (submit_by s p asked) (slice_get s.ports p) refl tt (λ port there.
    maybe_has IsAccepted (λ (c : PortError). Err (refusal_from c)) (option_map_or (push_request s p port asked) (request_at port.core asked) (Err refusal.OutOfRange)) (refusal_of port.core asked)
    (maybe_has IsAccepted (push_request s p port asked) (Err refusal.OutOfRange) (request_at port.core asked) tt (λ r prepared.
    at_channel_has IsAccepted s r.place.channel (push_on s p port asked r) (slice_get s.channels r.place.channel) refl tt (λ side found.
    either_has IsAccepted (is_busy side) (Err (refusal.Busy r.place.channel)) (made (with_channel r.place.channel (queued (item.Request r) side) (with_port p (after_submit asked port) s)) (outcome.Accepted r.number)) tt
    (r.number, refl))))
    (λ c is. tt))

pub one_more : (s next : State) (p : ℕ) (asked : Asked) (o : Outcome) → step s (Submit p asked) ≡ made next o → outstanding next ≡ outstanding s + 1
one_more s next p asked o is =
    let accepted : (number : ℕ) × (o ≡ outcome.Accepted number) = subst IsAccepted is (submit_accepts s p asked) in
    (subst (λ (x : Outcome). Counted (Submit p asked) (outstanding s) x (outstanding next)) accepted.1 (made_counts s next (Submit p asked) o is)).0

-- other ports stay as they are

written_elsewhere : {X : Type 0} (xs : List X) (p q : ℕ) (x : X) → q ≢ p → slice_get (slice_set xs p x) q ≡ slice_get xs q
written_elsewhere [] p q x other = refl
written_elsewhere (y ∷ xs) zero zero x other = absurd (other refl)
written_elsewhere (y ∷ xs) zero (suc q) x other = refl
written_elsewhere (y ∷ xs) (suc p) zero x other = refl
written_elsewhere (y ∷ xs) (suc p) (suc q) x other = written_elsewhere xs p q x (λ e. other (ap suc e))

abbrev KeepsPort : ℕ → State → Step → Type 0
KeepsPort q s (Ok m) = slice_get m.state.ports q ≡ slice_get s.ports q
KeepsPort q s (Err c) = Unit {0}

submit_keeps : (s : State) (p q : ℕ) (asked : Asked) → q ≢ p → KeepsPort q s (submit s p asked)
submit_keeps s p q asked other = at_port_has (KeepsPort q s) s p (submit_by s p asked) (slice_get s.ports p) refl tt (λ port there.
    maybe_has (KeepsPort q s) (λ (c : PortError). Err (refusal_from c)) (option_map_or (push_request s p port asked) (request_at port.core asked) (Err refusal.OutOfRange)) (refusal_of port.core asked)
    (maybe_has (KeepsPort q s) (push_request s p port asked) (Err refusal.OutOfRange) (request_at port.core asked) tt (λ r prepared.
    at_channel_has (KeepsPort q s) s r.place.channel (push_on s p port asked r) (slice_get s.channels r.place.channel) refl tt (λ side found.
    either_has (KeepsPort q s) (is_busy side) (Err (refusal.Busy r.place.channel)) (made (with_channel r.place.channel (queued (item.Request r) side) (with_port p (after_submit asked port) s)) (outcome.Accepted r.number)) tt
    (written_elsewhere s.ports p q (after_submit asked port) other))))
    (λ c is. tt))

either_keeps : (b : Bool) (x y : Submitted) (s : State) (q : ℕ) → slice_get x.state.ports q ≡ slice_get s.ports q → slice_get y.state.ports q ≡ slice_get s.ports q → slice_get (cond b x y).state.ports q ≡ slice_get s.ports q
either_keeps true x y s q a b = a
either_keeps false x y s q a b = b

answer_keeps : (on : State → Submitted) (wait : Refusal → Submitted) (s : State) (q : ℕ) (r : Step) → ((t : State) → slice_get (on t).state.ports q ≡ slice_get t.ports q) → ((cause : Refusal) → slice_get (wait cause).state.ports q ≡ slice_get s.ports q) → KeepsPort q s r
    → slice_get (after_answer on wait r).state.ports q ≡ slice_get s.ports q
answer_keeps on wait s q (Ok m) goes waits keeps = goes m.state ∙ keeps
answer_keeps on wait s q (Err c) goes waits keeps = waits c

submitted_keeps : (p round : ℕ) (queue : List Ask) (s : State) (ledger : Ledger) (q : ℕ) → q ≢ p → slice_get (submitted p round queue s ledger).state.ports q ≡ slice_get s.ports q
submitted_keeps p round [] s ledger q other = refl
submitted_keeps p round (ask ∷ more) s ledger q other =
    either_keeps (nat_lt round ask.at) (stays s ledger (ask ∷ more)) (after_answer (onward p round ask more ledger) (waits p s ledger (ask ∷ more)) (step s (Submit p (asked_by ask)))) s q refl
    (answer_keeps (onward p round ask more ledger) (waits p s ledger (ask ∷ more)) s q (step s (Submit p (asked_by ask))) (λ t. submitted_keeps p round more t (with_accepted p (accepted_in round ask) ledger) q other) (λ cause. refl) (submit_keeps s p q (asked_by ask) other))

pub others_kept : (p round : ℕ) (queue : List Ask) (s : State) (ledger : Ledger) (q : ℕ) → q ≢ p → slice_get (submitted p round queue s ledger).state.ports q ≡ slice_get s.ports q
others_kept p round queue s ledger q other = submitted_keeps p round queue s ledger q other

-- ---- of all requests that are left

-- some of a port's were submitted, and these are left
pub record IsLed (p round : ℕ) (before : State) (old : Ledger) (now : State) (ledger : Ledger) (all next : All) : Type 0 where
  pub requests : next.requests ≡ all.requests
  pub rest : List Ask
  pub queues : next.queues ≡ slice_set all.queues p rest
  pub led : submitted p round rest now ledger ≡ submitted p round (queue_at all.queues p) before old

abbrev Known : Type 0
Known = Option (Result All Fault)

abbrev Leading : ℕ → ℕ → State → Ledger → State → Ledger → All → All → Type 0
Leading p round before old now ledger = λ all next. IsLed p round before old now ledger all next

-- none was
led_first : (p round : ℕ) (s : State) (ledger : Ledger) (all : All) → IsLed p round s ledger s ledger all all
led_first p round s ledger all = record {
  requests = refl;
  rest = queue_at all.queues p;
  queues = sym (set-get_or all.queues p []);
  led = refl;
}

pub led_start : (p round : ℕ) (s : State) (ledger : Ledger) (a : Known) → Carries (Leading p round s ledger s ledger) a a
led_start p round s ledger a = carries_same (Leading p round s ledger s ledger) a a (same_itself a) (led_first p round s ledger)

-- the queue of a port that was written
pub written_here : (queues : Queues) (p : ℕ) (rest : List Ask) → p < length queues → queue_at (slice_set queues p rest) p ≡ rest
written_here [] p rest within = absurd (omega (arith, within))
written_here (q ∷ qs) zero rest within = refl
written_here (q ∷ qs) (suc p) rest within = written_here qs p rest (omega (arith, within))

written_twice : (queues : Queues) (p : ℕ) (first second : List Ask) → slice_set (slice_set queues p first) p second ≡ slice_set queues p second
written_twice [] p first second = refl
written_twice (q ∷ qs) zero first second = refl
written_twice (q ∷ qs) (suc p) first second = ap (λ (rest : Queues). q ∷ rest) (written_twice qs p first second)

written_size : (queues : Queues) (p : ℕ) (rest : List Ask) → length (slice_set queues p rest) ≡ length queues
written_size [] p rest = refl
written_size (q ∷ qs) zero rest = refl
written_size (q ∷ qs) (suc p) rest = ap suc (written_size qs p rest)

-- there are as many queues as ports
sized_before : (w : Waiting) (more : Option (List ℕ)) (all next : All) (p : ℕ) (rest : List Ask) → IsSized w → p < w.config.limits.ports → next.queues ≡ slice_set all.queues p rest → all_in w more ≡ Some (Ok next) → p < length all.queues
sized_before w more all next p rest sized within queues is =
    omega (arith, within, all_sized w more next sized is, ap (λ (qs : Queues). length qs) queues, written_size all.queues p rest)

-- the first of those that are left is the first that waits
left_first : (w : Waiting) (more : Option (List ℕ)) (all next : All) (p : ℕ) (rest : List Ask) → IsSized w → p < w.config.limits.ports → Knows w p → next.queues ≡ slice_set all.queues p rest → all_in w more ≡ Some (Ok next)
    → slice_get rest 0 ≡ slice_get (queue_at w.queues p) 0
left_first w more all next p rest sized within knows queues is =
    let here : p < length all.queues = sized_before w more all next p rest sized within queues is in
    ap (λ (q : List Ask). slice_get q 0) (sym (written_here all.queues p rest here) ∙ ap (λ (qs : Queues). queue_at qs p) (sym queues)) ∙ all_first w more next p sized within knows is

-- the port submits no more
pub led_end : (p round until : ℕ) (before : State) (old : Ledger) (s : State) (ledger : Ledger) (t : State) (after : Ledger) (w : Waiting) (more : Option (List ℕ)) (a : Known) → IsSized w → p < w.config.limits.ports → Knows w p
    → Carries (Leading p round before old s ledger) a (all_in w more)
    → ((rest : List Ask) → slice_get rest 0 ≡ slice_get (queue_at w.queues p) 0 → (submitted p round rest s ledger ≡ record { state = t; ledger = after; rest = rest }) × IsWaiting p until round rest t)
    → Carries (λ all next. IsSubmitted p round until before old t after all next) a (all_in w more)
led_end p round until before old s ledger t after w more None sized within knows led ends = tt
led_end p round until before old s ledger t after w more (Some (Err fault)) sized within knows led ends = led
led_end p round until before old s ledger t after w more (Some (Ok all)) sized within knows led ends =
    let next = led.0 in
    let is = led.2 in
    let last = ends is.rest (left_first w more all next p is.rest sized within knows is.queues led.1) in
    (next, led.1, record { requests = is.requests; rest = is.rest; queues = is.queues; submitted = sym is.led ∙ last.0; waits = last.1 })

-- a request is refused, and the port submits no more
pub led_refused : (p round until : ℕ) (before : State) (old : Ledger) (s : State) (ledger : Ledger) (t : State) (after : Ledger) (w : Waiting) (more : Option (List ℕ)) (a : Known) (ask : Ask) (cause : Refusal) → IsSized w → p < w.config.limits.ports → Knows w p
    → Carries (Leading p round before old s ledger) a (all_in w more)
    → Some ask ≡ slice_get (queue_at w.queues p) 0 → ask.at ≤ round → step s (Submit p (asked_by ask)) ≡ Err cause → t ≡ s → after ≡ with_wait p cause ledger
    → ((rest : List Ask) → Some ask ≡ slice_get rest 0 → IsWaiting p until round rest t)
    → Carries (λ all next. IsSubmitted p round until before old t after all next) a (all_in w more)
led_refused p round until before old s ledger t after w more a ask cause sized within knows led first come refused same waited waiting =
    led_end p round until before old s ledger t after w more a sized within knows led
    (λ rest here. (
      submitted_refused p round rest ask s ledger cause (first ∙ sym here) come refused ∙ ap₂ (λ (x : State) (l : Ledger). stays x l rest) (sym same) (sym waited),
      waiting rest (first ∙ sym here),
    ))

-- one request more was submitted
pub led_on : (p round : ℕ) (before : State) (old : Ledger) (s : State) (ledger : Ledger) (t : State) (after : Ledger) (w : Waiting) (more : Option (List ℕ)) (a : Known) (ask : Ask) → IsSized w → p < w.config.limits.ports → Some ask ≡ slice_get (queue_at w.queues p) 0
    → Carries (Leading p round before old s ledger) a (all_in w more)
    → ((rest : List Ask) → Some ask ≡ slice_get rest 0 → submitted p round (drop 1 rest) t after ≡ submitted p round rest s ledger)
    → Carries (Leading p round before old t after) a (all_in (popped p w) more)
led_on p round before old s ledger t after w more None ask sized within first led on = tt
led_on p round before old s ledger t after w more (Some (Err fault)) ask sized within first led on = all_popped_fault w more fault p led
led_on p round before old s ledger t after w more (Some (Ok all)) ask sized within first led on =
    let next = led.0 in
    let is = led.2 in
    let some : 0 < length (queue_at w.queues p) = omega (arith, some_left (queue_at w.queues p) ask first) in
    let here : p < length all.queues = sized_before w more all next p is.rest sized within is.queues led.1 in
    let rest_first : Some ask ≡ slice_get is.rest 0 = first ∙ sym (left_first w more all next p is.rest sized within (inl some) is.queues led.1) in
    let queues : (dropped p next).queues ≡ slice_set all.queues p (drop 1 is.rest) =
    ap (λ (qs : Queues). slice_set qs p (drop 1 (queue_at qs p))) is.queues
    ∙ ap (λ (q : List Ask). slice_set (slice_set all.queues p is.rest) p (drop 1 q)) (written_here all.queues p is.rest here)
    ∙ written_twice all.queues p is.rest (drop 1 is.rest) in (
      dropped p next,
      all_popped w more next p sized some led.1,
      record { requests = is.requests; rest = drop 1 is.rest; queues = queues; led = on is.rest rest_first ∙ is.led },
    )

-- ---- what a port waits for

pub waits_later : (p round : ℕ) (rest : List Ask) (ask : Ask) (s : State) → Some ask ≡ slice_get rest 0 → IsWaiting p ask.at round rest s
waits_later p round rest ask s first = λ ahead. subst (λ o. IfSome o (λ (x : Ask). (ask.at ≤ x.at) ⊎ ((x.at ≤ round) × IsFull p x s))) first (inl (omega arith))

pub waits_full : (p until round : ℕ) (rest : List Ask) (ask : Ask) (s : State) → Some ask ≡ slice_get rest 0 → ask.at ≤ round → IsFull p ask s → IsWaiting p until round rest s
waits_full p until round rest ask s first come full = λ ahead. subst (λ o. IfSome o (λ (x : Ask). (until ≤ x.at) ⊎ ((x.at ≤ round) × IsFull p x s))) first (inr (come, full))

pub waits_none : (p until round : ℕ) (rest : List Ask) (s : State) → None ≡ slice_get rest 0 → IsWaiting p until round rest s
waits_none p until round rest s none = λ ahead. subst (λ o. IfSome o (λ (x : Ask). (until ≤ x.at) ⊎ ((x.at ≤ round) × IsFull p x s))) none tt

-- ---- what is known of ports

pub port_within : (w : Waiting) (config : Config) (p : ℕ) → w.config ≡ config → p < config.limits.ports → p < w.config.limits.ports
port_within w config p same within = omega (arith, within, ap (λ (k : Config). k.limits.ports) same)

pub popped_knows : (w : Waiting) (p q : ℕ) → q ≢ p → Knows w q → Knows (popped p w) q
popped_knows w p q other (inl some) =
    let same : queue_at (slice_set w.queues p (drop 1 (queue_at w.queues p))) q ≡ queue_at w.queues q = get_or-set_other w.queues p q (drop 1 (queue_at w.queues p)) [] other in
    inl (subst (λ (queue : List Ask). 0 < length queue) (sym same) some)
popped_knows w p q other (inr ended) = inr ended
