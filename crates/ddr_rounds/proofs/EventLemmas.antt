-- What an event was answered, and what stays where an event is made and made again.
use Rattle.std.proofs.Common.{◌≡◌, ◌+◌, ℕ, zero, suc, Bool, true, false, is_some, Option, Some, None, Result, Ok, Err, IsTrue, is_ok, refl, sym, ap, subst, ◌∙◌}
use Rattle.std.specs.List.{slice_get}
use Rattle.std.specs.Option.{option_map, option_and_then, option_map_or}
use Rattle.ddr_reorder.specs.declared.reply.Reply.{Reply}
use Rattle.ddr_reorder.specs.declared.reply.Service.{Service}
use Rattle.ddr_reorder.specs.Replies.{Answer, lent_service, nth_answer, said}
use Rattle.ddr_world.specs.declared.event.Outcome.{Outcome}
use Rattle.ddr_world.specs.declared.event.Outcome.TheVariants as outcome
use Rattle.ddr_world.specs.declared.event.Refusal.{Refusal}
use Rattle.ddr_world.specs.declared.event.Refusal.TheVariants as refusal
use Rattle.ddr_world.specs.Answer.{IsAnswered, IsRefused}
use Rattle.ddr_world.specs.Events.{Event, Submit, Take, Cycle, Deliver, Collect, Release, End}
use Rattle.ddr_world.specs.History.{front_of}
use Rattle.ddr_world.specs.Kept.{Kept, state_of}
use Rattle.ddr_world.specs.State.{PortSide, State}
use Rattle.ddr_world.specs.Step.{Made, Step, after_release, made, release_by, step, with_port}
use Rattle.ddr_rounds.specs.Rounds.{after, is_popping, items_of, made_state, repeated, until_refused}
use Rattle.ddr_rounds.proofs.StepCounts.{release_pops}

pub answered_ok : (k next : Kept) (event : Event) (r : Result Outcome Refusal) → IsAnswered k next event r → is_ok r ≡ true → (o : Outcome) × (step (state_of k) event ≡ made (state_of next) o)
answered_ok k next event (Ok o) a is = (o, a.ok)
answered_ok k next event (Err cause) a is = absurd (let impossible = is in cc)

refused_by : (event : Event) (cause : Refusal) (s : Step) → IsTrue (is_popping event) → IsRefused cause event s → s ≡ Err cause
refused_by (Take c) cause s popping is = is
refused_by (Deliver c) cause s popping is = is
refused_by (Collect p) cause s popping is = is
refused_by (Submit p asked) cause s popping is = absurd (let impossible = popping in cc)
refused_by (Cycle c) cause s popping is = absurd (let impossible = popping in cc)
refused_by (Release p) cause s popping is = absurd (let impossible = popping in cc)
refused_by (End p c) cause s popping is = absurd (let impossible = popping in cc)

pub answered_err : (k next : Kept) (event : Event) (r : Result Outcome Refusal) → IsTrue (is_popping event) → IsAnswered k next event r → is_ok r ≡ false → (cause : Refusal) × (step (state_of k) event ≡ Err cause) × (state_of next ≡ state_of k)
answered_err k next event (Ok o) popping a is = absurd (let impossible = is in cc)
answered_err k next event (Err cause) popping a is = (cause, refused_by event cause (step (state_of k) event) popping a.refused, a.err)

-- whatever was answered, the state is that after the event
after_answer : (k next : Kept) (event : Event) (r : Result Outcome Refusal) → IsAnswered k next event r → ((cause : Refusal) → IsRefused cause event (step (state_of k) event) → step (state_of k) event ≡ Err cause) → state_of next ≡ after (state_of k) event
after_answer k next event (Ok o) a named = sym (ap (λ (r : Step). elim r as (λ _. State) [ Ok m ↦ m.state | Err cause ↦ state_of k ]) a.ok)
after_answer k next event (Err cause) a named = a.err ∙ sym (ap (λ (r : Step). elim r as (λ _. State) [ Ok m ↦ m.state | Err cause ↦ state_of k ]) (named cause a.refused))

pub after_end_answer : (k next : Kept) (p c : ℕ) (r : Result Outcome Refusal) → IsAnswered k next (End p c) r → state_of next ≡ after (state_of k) (End p c)
after_end_answer k next p c r a = after_answer k next (End p c) r a (λ cause is. is)

pub after_take_answer : (k next : Kept) (c : ℕ) (r : Result Outcome Refusal) → IsAnswered k next (Take c) r → state_of next ≡ after (state_of k) (Take c)
after_take_answer k next c r a = after_answer k next (Take c) r a (λ cause is. is)

pub after_made : (s next : State) (event : Event) (o : Outcome) → step s event ≡ made next o → after s event ≡ next
after_made s next event o is = ap (λ (r : Step). elim r as (λ _. State) [ Ok m ↦ m.state | Err cause ↦ s ]) is

-- an event that finds nothing to pop
pub nothing_popped : (event : Event) (s : State) → items_of s event ≡ 0 → until_refused event s ≡ s
nothing_popped event s none = ap (λ n. repeated n event s) none

-- What stays while an event is made stays however often it is made.

abbrev pub Stays : {A : Type 0} → (State → A) → Event → Type 0
Stays f event = (s next : State) (o : Outcome) → step s event ≡ made next o → f next ≡ f s

stays_by : {A : Type 0} (f : State → A) (event : Event) (g : State → State) → Stays f event → ((t : State) → f (g t) ≡ f t) → (s : State) (r : Step) → step s event ≡ r → f (option_map_or g (made_state r) s) ≡ f s
stays_by f event g stays later s (Ok m) is = later m.state ∙ stays s m.state m.outcome is
stays_by f event g stays later s (Err cause) is = refl

pub repeated_stays : {A : Type 0} (f : State → A) (event : Event) → Stays f event → (n : ℕ) (s : State) → f (repeated n event s) ≡ f s
repeated_stays f event stays zero s = refl
repeated_stays f event stays (suc n) s = stays_by f event (repeated n event) stays (repeated_stays f event stays n) s (step s event) refl

-- the reply in front of a port

front_there : (s : State) (p : ℕ) (a : Answer) (o : Option PortSide) → option_and_then (λ (port : PortSide). nth_answer port.core.reorder 0) o ≡ Some a → (port : PortSide) × (o ≡ Some port) × (nth_answer port.core.reorder 0 ≡ Some a)
front_there s p a None is = absurd (let impossible = is in cc)
front_there s p a (Some port) is = (port, refl, is)

release_made : (s : State) (p : ℕ) (a : Answer) (port : PortSide) → slice_get s.ports p ≡ Some port → nth_answer port.core.reorder 0 ≡ Some a → step s (Release p) ≡ made (with_port p (after_release port) s) (outcome.Released a.number)
release_made s p a port there front =
    ap (λ o. option_map_or (release_by s p) o (Err refusal.NoSuch)) there
    ∙ ap (λ o. option_map_or (λ n. made (with_port p (after_release port) s) (outcome.Released n)) (option_map (λ (x : Answer). x.number) o) (Err refusal.Nothing)) front

pub front_released : (s : State) (p : ℕ) (a : Answer) → front_of s p ≡ Some a → (m : Made) × (step s (Release p) ≡ Ok m)
front_released s p a is =
    let found = front_there s p a (slice_get s.ports p) is in
    (record { state = with_port p (after_release found.0) s; outcome = outcome.Released a.number }, release_made s p a found.0 found.1 found.2)

released_by : (k next : Kept) (p : ℕ) (r : Result Outcome Refusal) (m : Made) → step (state_of k) (Release p) ≡ Ok m → IsAnswered k next (Release p) r → (o : Outcome) × (step (state_of k) (Release p) ≡ made (state_of next) o)
released_by k next p (Ok o) m is a = (o, a.ok)
released_by k next p (Err cause) m is a = absurd (let impossible = sym is ∙ a.refused in cc)

pub front_answered : (k next : Kept) (p : ℕ) (r : Result Outcome Refusal) (a : Answer) → front_of (state_of k) p ≡ Some a → IsAnswered k next (Release p) r → (o : Outcome) × (step (state_of k) (Release p) ≡ made (state_of next) o)
front_answered k next p r a front is = let m = front_released (state_of k) p a front in released_by k next p r m.0 m.1 is

pub front_fewer : (s next : State) (p : ℕ) (o : Outcome) → step s (Release p) ≡ made next o → items_of s (Release p) ≡ items_of next (Release p) + 1
front_fewer s next p o is = subst (λ (r : Step). elim r as (λ _. Type 0) [ Ok m ↦ items_of s (Release p) ≡ items_of m.state (Release p) + 1 | Err cause ↦ Unit {0} ]) is (release_pops s p)

-- whether it was made at all

pub made_first : (some : Bool) (start now next : State) (event : Event) (o : Outcome) → (some ≡ true → is_ok (step start event) ≡ true) → (some ≡ false → now ≡ start) → step now event ≡ made next o → is_ok (step start event) ≡ true
made_first true start now next event o before none is = before refl
made_first false start now next event o before none is = ap (λ (t : State). is_ok (step t event)) (sym (none refl)) ∙ ap (λ (r : Step). is_ok r) is

pub made_at_all : (some : Bool) (start now : State) (event : Event) (cause : Refusal) → (some ≡ true → is_ok (step start event) ≡ true) → (some ≡ false → now ≡ start) → step now event ≡ Err cause → some ≡ is_ok (step start event)
made_at_all true start now event cause before none is = sym (before refl)
made_at_all false start now event cause before none is = sym (ap (λ (t : State). is_ok (step t event)) (sym (none refl)) ∙ ap (λ (r : Step). is_ok r) is)

-- no reply was found in front of a port

pub none_in_front : (found : Option Reply) (front : Option Answer) → is_some found ≡ false → option_map said found ≡ front → front ≡ None
none_in_front None front none is = sym is
none_in_front (Some reply) front none is = absurd (let impossible = none in cc)

pub none_served : (found : Option Reply) (front : Option Service) → is_some found ≡ false → option_map lent_service found ≡ front → front ≡ None
none_served None front none is = sym is
none_served (Some reply) front none is = absurd (let impossible = none in cc)
