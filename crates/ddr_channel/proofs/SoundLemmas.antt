-- Each call keeps what every state of a channel keeps.
use Rattle.std.proofs.Common.{◌≡◌, ℕ, suc, ◌+◌, ◌<◌, ◌≤◌, Bool, true, false, not, cond, eqb, List, [], ◌∷◌, ◌++◌, Option, Some, None, length, refl, sym, ap, subst, ◌∙◌, inl, inr, arith}
use Rattle.std.specs.List.{AllByRecursion, filter, slice_get}
use Rattle.std.specs.Option.{option_map, IfSome}
use Rattle.std.proofs.lemmas.Bool.{ltb-true, and_right, cases_eq, eq-eqb, ne_eqb}
use Rattle.std.proofs.lemmas.List.{length-append, length_push, length-drop}
use Rattle.std.proofs.lemmas.List.Elements.{All-nil, All-push}
use Rattle.std.proofs.lemmas.Option.{slice_get_within}
use Rattle.circular_buffer.proofs.Places.{slice_get-append_left, slice_get-last}
use Rattle.ddr_timing.specs.declared.config.Config.{Config}
use Rattle.ddr_trace.specs.declared.command.Command.{Command}
use Rattle.ddr_trace.specs.declared.command.Entry.{Entry}
use Rattle.ddr_trace.specs.Commands.{entry}
use Rattle.ddr_trace.specs.Legality.{IsLegal}
use Rattle.ddr_address_map.specs.declared.place.Place.{Place}
use Rattle.ddr_address_map.specs.declared.request.Kind.{Kind}
use Rattle.ddr_address_map.specs.declared.request.Kind.TheVariants.{Read, Write}
use Rattle.ddr_address_map.specs.Requests.{Request, Completion}
use Rattle.ddr_legality.specs.Bus.{is_legal_now}
use Rattle.ddr_legality.proofs.LegalLemmas.{IsLegal-later, IsLegal-append, not_at_end}
use Rattle.ddr_hazards.specs.declared.waiting.Waiting.{Waiting}
use Rattle.ddr_arbiter.specs.declared.choice.Choice.{Choice}
use Rattle.ddr_arbiter.specs.declared.choice.Choice.TheVariants as choice
use Rattle.ddr_arbiter.specs.Commands.{column_at, column_of}
use Rattle.ddr_arbiter.specs.Laws.{command_of, IsLawful}
use Rattle.ddr_arbiter.proofs.CommandLemmas.{legal_keeps}
use Rattle.ddr_arbiter.proofs.LawLemmas.{choice_lawful}
use Rattle.ddr_channel.specs.Choice.{bus_of, has_room, situation_of, choice_of}
use Rattle.ddr_channel.specs.Cycle.{completed, at_choice, recorded, service_time, completion_of, served, served_at, issued, ticked, after_cycle}
use Rattle.ddr_channel.specs.Sound.{IsServed, IsTraced, AreDue, IsSound}
use Rattle.ddr_channel.specs.State.{State, opened, after_admit, after_pop}
use Rattle.ddr_channel.proofs.LegalNowLemmas.{later_due}
use Rattle.ddr_channel.proofs.ListLemmas.{All-filter, All-implies, All-last, All-remove}

-- completions in the order in which they are due

-- what is due from a cycle on is due from an earlier one on
pub due_from : (later first : ℕ) (ds : List Completion) → first ≤ later → AreDue later ds → AreDue first ds
due_from later first [] earlier due = tt
due_from later first (d ∷ ds) earlier due = (omega arith, due.1)

-- what is due later is not due now
pub none_due : (now : ℕ) (ds : List Completion) → AreDue (now + 1) ds → (filter (λ d. eqb d.due now) ds ≡ []) × (filter (λ d. not (eqb d.due now)) ds ≡ ds)
none_due now [] due = (refl, refl)
none_due now (d ∷ ds) due =
    let later = ne_eqb d.due now (λ same. omega arith) in
    let rest = none_due now ds (due_from (d.due + 1) (now + 1) ds (omega arith) due.1) in
    (rw later rest.0, rw later (ap (λ (es : List Completion). d ∷ es) rest.1))

-- at most one completion is due now, and then it is the first
pub due_now : (now : ℕ) (d : Completion) (ds : List Completion) → AreDue now (d ∷ ds) → d.due ≡ now →
    (filter (λ e. eqb e.due now) (d ∷ ds) ≡ d ∷ []) × (filter (λ e. not (eqb e.due now)) (d ∷ ds) ≡ ds)
due_now now d ds due same =
    let here = eq-eqb d.due now same in
    let rest = none_due now ds (due_from (d.due + 1) (now + 1) ds (omega arith) due.1) in
    (rw here (ap (λ (es : List Completion). d ∷ es) rest.0), rw here rest.1)

pub due_later : (now : ℕ) (d : Completion) (ds : List Completion) → AreDue now (d ∷ ds) → (d.due ≡ now → ⊥) → AreDue (now + 1) (d ∷ ds)
due_later now d ds due other = (omega arith, due.1)

-- what is left in flight is due after this cycle
pub due_after : (now : ℕ) (ds : List Completion) → AreDue now ds → AreDue (now + 1) (filter (λ d. not (eqb d.due now)) ds)
due_after now [] due = tt
due_after now (d ∷ ds) due = elim (cases_eq d.due now) [
  | inl same ↦ subst (AreDue (now + 1)) (sym (due_now now d ds due same).1) (due_from (d.due + 1) (now + 1) ds (omega arith) due.1)
  | inr other ↦ subst (AreDue (now + 1)) (sym (none_due now (d ∷ ds) (due_later now d ds due other)).1) (due_later now d ds due other)
]

pub AreDue-append : (first : ℕ) (ds : List Completion) (e : Completion) → AreDue first ds → AllByRecursion (λ d. d.due < e.due) ds → first ≤ e.due → AreDue first (ds ++ e ∷ [])
AreDue-append first [] e due below low = (low, tt)
AreDue-append first (d ∷ ds) e due below low = (due.0, AreDue-append (d.due + 1) ds e due.1 below.1 (omega arith))

IsTraced-append : (config : Config) (trace : List Entry) (e : Entry) (d : Completion) → IsTraced config trace d → IsTraced config (trace ++ e ∷ []) d
IsTraced-append config trace e d t = record {
  place = t.place;
  auto = t.auto;
  at = t.at;
  there = slice_get-append_left trace (e ∷ []) t.at (slice_get_within trace t.at _ t.there) ∙ t.there;
  due = t.due;
}

counted : {X : Type 0} (b : Bool) (x : X) (ys zs : List X) (n : ℕ) → length ys + length zs ≡ n → length (cond b (x ∷ ys) ys) + length (cond (not b) (x ∷ zs) zs) ≡ suc n
counted true x ys zs n e = omega arith
counted false x ys zs n e = omega arith

pub length-filter : {X : Type 0} (test : X → Bool) (xs : List X) → length (filter test xs) + length (filter (λ x. not (test x)) xs) ≡ length xs
length-filter test [] = refl
length-filter test (x ∷ xs) = counted (test x) x (filter test xs) (filter (λ y. not (test y)) xs) (length xs) (length-filter test xs)

room_kept : (s : State) → length s.flight + length s.done ≤ s.config.limits.done → length (completed s).flight + length (completed s).done ≤ s.config.limits.done
room_kept s room =
    let whole = length-filter (λ d. eqb d.due s.now) s.flight in
    let both = length-append s.done (filter (λ d. eqb d.due s.now) s.flight) in
    omega arith

-- a cycle, step by step

-- what comes before the choice
pub IsSound-at_choice : (s : State) → IsSound s → IsSound (at_choice s)
IsSound-at_choice s sound = record {
  legal = sound.legal;
  due = due_from (s.now + 1) s.now _ (omega arith) (due_after s.now s.flight sound.due);
  traced = All-filter _ _ s.flight sound.traced;
  room = room_kept s sound.room;
  served = sound.served;
  begun = sound.begun;
  admitted = sound.admitted;
}

-- a command that may be issued, or none
sound_recorded : (s : State) (o : Option Command) → IfSome o (λ c. is_legal_now (bus_of s) c ≡ true) → IsSound s → AreDue (s.now + 1) s.flight → IsSound (ticked (recorded o s))
sound_recorded s None legal sound due = record {
  legal = IsLegal-later s.config s.start s.now s.trace sound.legal;
  due = due;
  traced = sound.traced;
  room = sound.room;
  served = sound.served;
  begun = omega (arith, sound.begun);
  admitted = λ k d within. omega (arith, sound.admitted k d within);
}
sound_recorded s (Some c) legal sound due = record {
  legal = IsLegal-append s.config s.start (s.now + 1) s.trace (entry s.now c) (IsLegal-later s.config s.start s.now s.trace sound.legal) (legal_keeps (bus_of s) c legal);
  due = due;
  traced = All-implies _ _ s.flight (IsTraced-append s.config s.trace (entry s.now c)) sound.traced;
  room = sound.room;
  served = sound.served;
  begun = omega (arith, sound.begun);
  admitted = λ k d within. omega (arith, sound.admitted k d within);
}

due_before : (s : State) (d : Completion) (auto : Bool) (kind : Kind) (p : Place) → IsTraced s.config s.trace d → IsLegal s.config s.start (s.now + 1) (s.trace ++ entry s.now (column_at auto kind p) ∷ []) →
    d.due < s.now + service_time s.config kind
due_before s d auto kind p t legal =
    let later = later_due s.config s.start (s.now + 1) s.trace s.now d.issued auto t.auto kind d.echo.kind p t.place t.at legal t.there in
    let due = t.due in
    omega arith

after_now : (config : Config) (kind : Kind) (now : ℕ) → now + 1 ≤ now + service_time config kind
after_now config Read now = omega arith
after_now config Write now = omega arith

one_more : (s : State) → length s.flight + length s.done < s.config.limits.done → (d : Completion) → length (s.flight ++ d ∷ []) + length s.done ≤ s.config.limits.done
one_more s room d = let more = length_push s.flight d in omega arith

-- the column command of the request at a place, which completes after all that are in flight
sound_served : (s : State) (auto : Bool) (place : ℕ) (w : Waiting) → IsSound s → AreDue (s.now + 1) s.flight → has_room s ≡ true → is_legal_now (bus_of s) (column_of auto w.request) ≡ true →
    IsSound (ticked (served place w.request (recorded (Some (column_of auto w.request)) s)))
sound_served s auto place w sound due room legal =
    let r = w.request in
    let command = column_of auto r in
    let before = sound_recorded s (Some command) legal sound due in
    record {
      legal = before.legal;
      due = AreDue-append (s.now + 1) s.flight (completion_of s r) due
          (All-implies (IsTraced s.config s.trace) (λ d. d.due < s.now + service_time s.config r.echo.kind) s.flight (λ d t. due_before s d auto r.echo.kind r.place t before.legal) sound.traced)
          (after_now s.config r.echo.kind s.now);
      traced = All-last _ s.flight (completion_of s r) before.traced
          (record { place = r.place; auto = auto; at = length s.trace; there = slice_get-last s.trace (entry s.now command) (length s.trace) refl; due = refl });
      room = one_more s (ltb-true _ _ room) (completion_of s r);
      served = All-remove (λ (v : Waiting). IsServed s.config v.request.place) s.pending place sound.served;
      begun = before.begun;
      admitted = All-remove (λ (v : Waiting). v.admitted ≤ s.now + 1) s.pending place before.admitted;
    }

sound_column : (s : State) (auto : Bool) (place : ℕ) (o : Option Waiting) → slice_get s.pending place ≡ o → IfSome (option_map (λ w. column_of auto w.request) o) (λ c. is_legal_now (bus_of s) c ≡ true) →
    has_room s ≡ true → IsSound s → AreDue (s.now + 1) s.flight → IsSound (ticked (served_at place o (recorded (option_map (λ w. column_of auto w.request) o) s)))
sound_column s auto place None here legal room sound due = sound_recorded s None tt sound due
sound_column s auto place (Some w) here legal room sound due = sound_served s auto place w sound due room legal

-- a lawful choice
pub sound_issued : (s : State) (c : Choice) → IsLawful (situation_of s) c → IsSound s → AreDue (s.now + 1) s.flight → IsSound (ticked (issued c s))
sound_issued s choice.Nothing law sound due = sound_recorded s None tt sound due
sound_issued s (choice.Refresh rank) law sound due = sound_recorded s (command_of s.pending (choice.Refresh rank)) law.legal sound due
sound_issued s (choice.PreAll rank) law sound due = sound_recorded s (command_of s.pending (choice.PreAll rank)) law.legal sound due
sound_issued s (choice.Act place) law sound due = sound_recorded s _ law.legal sound due
sound_issued s (choice.Pre place) law sound due = sound_recorded s _ law.legal sound due
sound_issued s (choice.Column place) law sound due = sound_column s false place (slice_get s.pending place) refl law.legal law.room sound due
sound_issued s (choice.ColumnAuto place) law sound due = sound_column s true place (slice_get s.pending place) refl law.legal law.room sound due

-- each call keeps it

pub IsSound-after_cycle : (s : State) → IsSound s → IsSound (after_cycle s)
IsSound-after_cycle s sound =
    sound_issued (at_choice s) (choice_of (at_choice s)) (choice_lawful (situation_of (at_choice s))) (IsSound-at_choice s sound) (due_after s.now s.flight sound.due)

pub IsSound-after_admit : (s : State) (r : Request) → IsSound s → IsServed s.config r.place → IsSound (after_admit r s)
IsSound-after_admit s r sound here = record {
  legal = sound.legal;
  due = sound.due;
  traced = sound.traced;
  room = sound.room;
  served = All-push (λ (v : Waiting). IsServed s.config v.request.place) s.pending (record { request = r; admitted = s.now }) sound.served here;
  begun = sound.begun;
  admitted = All-push (λ (v : Waiting). v.admitted ≤ s.now) s.pending (record { request = r; admitted = s.now }) sound.admitted (omega arith);
}

pub IsSound-after_pop : (s : State) → IsSound s → IsSound (after_pop s)
IsSound-after_pop s sound = record {
  legal = sound.legal;
  due = sound.due;
  traced = sound.traced;
  room = let rest = length-drop 1 s.done in omega (arith, sound.room);
  served = sound.served;
  begun = sound.begun;
  admitted = sound.admitted;
}

-- nothing is broken before the first cycle
pub IsSound-opened : (config : Config) (start : ℕ) → IsSound (opened config start)
IsSound-opened config start = record {
  legal = λ place r on_commands. and_right (eqb place 0) _ (not_at_end config start start [] r on_commands);
  due = tt;
  traced = tt;
  room = omega arith;
  served = All-nil _;
  begun = omega arith;
  admitted = All-nil _;
}
