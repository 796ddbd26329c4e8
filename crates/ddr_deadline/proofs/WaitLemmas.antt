-- A cycle that serves the oldest request alone doesn't put off its read or write.
use Rattle.std.proofs.Common.{◌≡◌, ℕ, ◌+◌, ◌<◌, ◌≤◌, Bool, true, false, ◌&&◌, not, cond, max, eqb, ltb, leb, List, [], ◌∷◌, ◌++◌, length, Option, Some, None, refl, sym, ap, subst, ◌∙◌, inl, inr, arith}
use Rattle.std.specs.List.{filter, slice_get}
use Rattle.std.specs.Option.{is_none, is_some, option_map}
use Rattle.std.proofs.lemmas.Bool.{and_from, and_parts, cases_lt, eq-eqb, eqb-true, lt-ltb, true≢false, false≢true}
use Rattle.std.proofs.lemmas.Bool.Decides.{nat_tests}
use Rattle.ddr_timing.specs.declared.timing.Timing.{Timing}
use Rattle.ddr_trace.specs.declared.bank.OpenBank.{OpenBank}
use Rattle.ddr_trace.specs.declared.command.Command.{Command}
use Rattle.ddr_trace.specs.declared.command.Entry.{Entry}
use Rattle.ddr_trace.specs.Banks.{auto_start, bank_behind, is_row, open_row, opened, ready_row, row_until, row_without}
use Rattle.ddr_trace.specs.Commands.{entry}
use Rattle.ddr_legality.specs.Bus.{Bus, is_legal_now}
use Rattle.ddr_address_map.specs.declared.place.Place.{Place}
use Rattle.ddr_address_map.specs.Requests.{Request, Completion}
use Rattle.ddr_hazards.specs.declared.waiting.Waiting.{Waiting}
use Rattle.ddr_arbiter.specs.declared.choice.Choice.{Choice}
use Rattle.ddr_arbiter.specs.declared.choice.Choice.TheVariants as choice
use Rattle.ddr_arbiter.specs.Choice.{can_activate, column_choice, is_on_other_row, is_row_shared}
use Rattle.ddr_arbiter.specs.Commands.{activate_at, column_of, precharge_at}
use Rattle.ddr_arbiter.specs.Laws.{column_place_of}
use Rattle.ddr_arbiter.proofs.CommandLemmas.{on_row}
use Rattle.ddr_channel.specs.Choice.{bus_of, choice_of, has_room, situation_of}
use Rattle.ddr_channel.specs.Cycle.{after_cycle, at_choice, issued, recorded, ticked}
use Rattle.ddr_channel.specs.Sound.{AreDue, IsServed, IsSound}
use Rattle.ddr_channel.specs.State.{State}
use Rattle.ddr_channel.proofs.ListLemmas.{All-at}
use Rattle.ddr_deadline.specs.Behind.{auto_behind, auto_from, column_from}
use Rattle.ddr_deadline.specs.Legal.{IsNextOf}
use Rattle.ddr_deadline.specs.Oldest.{IsServedAlone, own_step}
use Rattle.ddr_deadline.specs.Wait.{Earliest, by_bank, by_opening, comes_by, earliest, room_from, served_by}
use Rattle.ddr_deadline.proofs.GrowthLemmas.{activate_closed, auto_least, bank_closed, bank_opened, column_still}
use Rattle.ddr_deadline.proofs.LegalLemmas.{activate_comes, column_comes, precharge_comes}
use Rattle.ddr_deadline.proofs.OldestLemmas.{served_alone}

-- none before now

ahead_of : (t : Timing) (e : Earliest) (row : ℕ) (o : Option OpenBank) → e.now ≤ comes_by t e row o
ahead_of t e row None = omega arith
ahead_of t e row (Some bank) = by_auto bank.auto
  where
    by_row : (w : Bool) → e.now ≤ cond w (max e.now (max (bank.since + t.rcd) e.column)) (max (max (max e.now e.precharge + t.rp) e.activate + t.rcd) e.column)
    by_row true = omega arith
    by_row false = omega arith

    by_auto : (auto : Option Entry) → e.now ≤ by_bank t e row bank auto
    by_auto (Some a) = omega arith
    by_auto None = by_row (eqb bank.row row)

pub served_ahead : (s : State) (w : Waiting) → s.now ≤ served_by s w.request
served_ahead s w = ahead_of s.config.timing (earliest s w.request) w.request.place.row (bank_behind (precharge_at w.request.place) s.trace)

-- what is in flight

pub room_less : (now : ℕ) (ds : List Completion) → room_from (filter (λ d. not (eqb d.due now)) ds) ≤ room_from ds
room_less now [] = omega arith
room_less now (d ∷ ds) = by_test (eqb d.due now) (room_less now ds)
  where
    by_test : (w : Bool) → room_from (filter (λ c. not (eqb c.due now)) ds) ≤ room_from ds → room_from (cond (not w) (d ∷ filter (λ c. not (eqb c.due now)) ds) (filter (λ c. not (eqb c.due now)) ds)) ≤ room_from (d ∷ ds)
    by_test true rest = omega (arith, rest)
    by_test false rest = omega (arith, rest)

landed : (now : ℕ) (ds : List Completion) → AreDue now ds → room_from ds ≤ now → ds ≡ []
landed now [] due over = refl
landed now (d ∷ ds) due over = absurd (let first = due.0 in omega (arith, first, over))

room_there : (flight done : List Completion) (now most : ℕ) → flight ≡ [] → done ≡ [] → 1 ≤ most → ltb (length (filter (λ d. not (eqb d.due now)) flight) + length (done ++ filter (λ d. eqb d.due now) flight)) most ≡ true
room_there [] [] now most none nothing some = lt-ltb 0 most (omega (arith, some))
room_there (d ∷ ds) done now most none nothing some = cc
room_there [] (d ∷ ds) now most none nothing some = cc

-- with no room something is in flight
held_up : (s : State) → IsSound s → s.done ≡ [] → has_room (at_choice s) ≡ false → s.now < room_from s.flight
held_up s sound none full = elim (cases_lt s.now (room_from s.flight)) [
  | inl before ↦ before
  | inr over ↦ absurd (true≢false (sym (room_there s.flight s.done s.now s.config.limits.done (landed s.now s.flight sound.due over) none (s.config.limits.done_range.0)) ∙ full))
]

-- by numbers alone

opening_waits : (now act col new rcd : ℕ) → now < act → new ≤ col → max (max (now + 1) act + rcd) new ≤ max (max now act + rcd) col
opening_waits now act col new rcd before less = omega (arith, before, less)

own_waits : (now since col new : ℕ) → now < max since col → new ≤ col → max (now + 1) (max since new) ≤ max now (max since col)
own_waits now since col new before less = omega (arith, before, less)

other_waits : (now pre act col new rcd rp : ℕ) → now < pre → new ≤ col → max (max (max (now + 1) pre + rp) act + rcd) new ≤ max (max (max now pre + rp) act + rcd) col
other_waits now pre act col new rcd rp before less = omega (arith, before, less)

opened_by : (now act col new rcd : ℕ) → 1 ≤ rcd → new ≤ col → max (now + 1) (max (now + rcd) new) ≤ max (max now act + rcd) col
opened_by now act col new rcd some less = omega (arith, some, less)

closed_by : (now pre act later col new rcd rp : ℕ) → 1 ≤ rp → later ≤ max act (now + rp) → new ≤ col → max (max (now + 1) later + rcd) new ≤ max (max (max now pre + rp) act + rcd) col
closed_by now pre act later col new rcd rp some grown less = omega (arith, some, grown, less)

closed_early : (now act later col new rcd rp : ℕ) → 1 ≤ rp → now + rp ≤ act → later ≤ max act (now + rp) → new ≤ col → max (max (now + 1) later + rcd) new ≤ max (max now act + rcd) col
closed_early now act later col new rcd rp some before grown less = omega (arith, some, before, grown, less)

column_less : (c new room after : ℕ) → new ≡ c → after ≤ room → max new after ≤ max c room
column_less c new room after same less = omega (arith, same, less)

-- a cycle that issues nothing

-- what the cycle finds
record Finds (s : State) (r : Request) (after : List Completion) : Type 0 where
  next : IsNextOf (bus_of s)
  served : IsServed s.config r.place
  room : room_from after ≤ room_from s.flight

nothing_keeps : (s : State) (r : Request) (after : List Completion) → Finds s r after → can_activate (bus_of s) r.place ≡ false → (is_on_other_row (bus_of s) r.place && is_legal_now (bus_of s) (precharge_at r.place)) ≡ false →
    (is_legal_now (bus_of s) (column_of false r) ≡ true → s.now < room_from s.flight) → served_by (record s { now = s.now + 1; flight = after }) r ≤ served_by s r
nothing_keeps s r after f no_act no_pre no_column = by_held (bank_behind (precharge_at p) s.trace) refl
  where
    b : Bus
    b = bus_of s

    p : Place
    p = r.place

    t : Timing
    t = s.config.timing

    old : Earliest
    old = earliest s r

    new : Earliest
    new = earliest (record s { now = s.now + 1; flight = after }) r

    column : new.column ≤ old.column
    column = column_less (column_from t (column_of false r) s.trace) (column_from t (column_of false r) s.trace) (room_from s.flight) (room_from after) refl f.room

    unopened : ready_row (bank_behind (precharge_at p) s.trace) ≡ None → s.now < old.activate
    unopened none = elim (cases_lt s.now old.activate) [
      | inl before ↦ before
      | inr late ↦ absurd (true≢false (sym (activate_comes b p f.next f.served none late) ∙ no_act))
    ]

    by_own : (bank : OpenBank) → bank_behind (precharge_at p) s.trace ≡ Some bank → bank.auto ≡ None → bank.row ≡ p.row → s.now < max (bank.since + t.rcd) old.column
    by_own bank held stays row = elim (cases_lt s.now (max (bank.since + t.rcd) old.column)) [
      | inl before ↦ before
      | inr late ↦
          let legal = column_comes b r f.next f.served (record { bank = bank; held = held; stays = stays; row = row; opened = omega (arith, late) }) (omega (arith, late)) in
          let full = no_column legal in
          absurd (omega (arith, full, late))
    ]

    by_other : (bank : OpenBank) → bank_behind (precharge_at p) s.trace ≡ Some bank → bank.auto ≡ None → eqb bank.row p.row ≡ false → s.now < old.precharge
    by_other bank held stays row = elim (cases_lt s.now old.precharge) [
      | inl before ↦ before
      | inr late ↦
          let other : is_on_other_row b p ≡ true = on_row b p bank.row (ap (open_row t s.now) held ∙ ap (row_until t s.now bank) stays) ∙ ap not row in
          absurd (true≢false (sym (and_from (is_on_other_row b p) (is_legal_now b (precharge_at p)) other (precharge_comes b p f.next f.served late)) ∙ no_pre))
    ]

    by_row : (bank : OpenBank) → bank_behind (precharge_at p) s.trace ≡ Some bank → bank.auto ≡ None → (w : Bool) → eqb bank.row p.row ≡ w →
        cond w (max new.now (max (bank.since + t.rcd) new.column)) (max (max (max new.now new.precharge + t.rp) new.activate + t.rcd) new.column)
        ≤ cond w (max old.now (max (bank.since + t.rcd) old.column)) (max (max (max old.now old.precharge + t.rp) old.activate + t.rcd) old.column)
    by_row bank held stays true row = own_waits s.now (bank.since + t.rcd) old.column new.column (by_own bank held stays (eqb-true bank.row p.row row)) column
    by_row bank held stays false row = other_waits s.now old.precharge old.activate old.column new.column t.rcd t.rp (by_other bank held stays row) column

    by_auto : (bank : OpenBank) → bank_behind (precharge_at p) s.trace ≡ Some bank → (auto : Option Entry) → bank.auto ≡ auto → by_bank t new p.row bank auto ≤ by_bank t old p.row bank auto
    by_auto bank held (Some a) stays = opening_waits s.now old.activate old.column new.column t.rcd (unopened (ap ready_row held ∙ ap (row_without bank) stays)) column
    by_auto bank held None stays = by_row bank held stays (eqb bank.row p.row) refl

    by_held : (o : Option OpenBank) → bank_behind (precharge_at p) s.trace ≡ o → comes_by t new p.row o ≤ comes_by t old p.row o
    by_held None held = opening_waits s.now old.activate old.column new.column t.rcd (unopened (ap ready_row held)) column
    by_held (Some bank) held = by_auto bank held bank.auto refl

-- the request's own ACT

-- the state behind a command of this cycle
abbrev behind_command : State → List Completion → Command → State
behind_command s after c = record s { now = s.now + 1; flight = after; trace = s.trace ++ entry s.now c ∷ [] }

act_keeps : (s : State) (r : Request) (after : List Completion) → Finds s r after → can_activate (bus_of s) r.place ≡ true → served_by (behind_command s after (activate_at r.place)) r ≤ served_by s r
act_keeps s r after f opens = subst (λ o. comes_by t new p.row o ≤ comes_by t old p.row (bank_behind (precharge_at p) s.trace)) (sym (bank_opened p s.trace s.now)) (by_row (by_held (bank_behind (precharge_at p) s.trace) refl))
  where
    p : Place
    p = r.place

    t : Timing
    t = s.config.timing

    old : Earliest
    old = earliest s r

    new : Earliest
    new = earliest (behind_command s after (activate_at p)) r

    column : new.column ≤ old.column
    column =
        column_less (column_from t (column_of false r) s.trace) (column_from t (column_of false r) (s.trace ++ entry s.now (activate_at p) ∷ [])) (room_from s.flight) (room_from after)
        (column_still t (column_of false r) s.trace (entry s.now (activate_at p)) refl refl refl refl) f.room

    shut : is_none (open_row t s.now (bank_behind (precharge_at p) s.trace)) ≡ true
    shut = (and_parts _ (is_legal_now (bus_of s) (activate_at p)) opens).0

    by_held : (o : Option OpenBank) → bank_behind (precharge_at p) s.trace ≡ o → max (s.now + 1) (max (s.now + t.rcd) new.column) ≤ comes_by t old p.row o
    by_held None held = opened_by s.now old.activate old.column new.column t.rcd t.rcd_range.0 column
    by_held (Some bank) held = by_auto bank.auto refl
      where
        by_auto : (auto : Option Entry) → bank.auto ≡ auto → max (s.now + 1) (max (s.now + t.rcd) new.column) ≤ by_bank t old p.row bank auto
        by_auto (Some a) stays = opened_by s.now old.activate old.column new.column t.rcd t.rcd_range.0 column
        by_auto None stays = absurd (false≢true (sym (ap (λ o. is_none (open_row t s.now o)) held ∙ ap (λ o. is_none (row_until t s.now bank o)) stays) ∙ shut))

    by_row : max (s.now + 1) (max (s.now + t.rcd) new.column) ≤ comes_by t old p.row (bank_behind (precharge_at p) s.trace) →
        comes_by t new p.row (Some (opened (entry s.now (activate_at p)))) ≤ comes_by t old p.row (bank_behind (precharge_at p) s.trace)
    by_row most = rw (eq-eqb p.row p.row refl) most

-- its own PRE

pre_keeps : (s : State) (r : Request) (after : List Completion) → Finds s r after → is_on_other_row (bus_of s) r.place ≡ true → served_by (behind_command s after (precharge_at r.place)) r ≤ served_by s r
pre_keeps s r after f other = subst (λ o. comes_by t new p.row o ≤ comes_by t old p.row (bank_behind (precharge_at p) s.trace)) (sym (bank_closed p s.trace s.now)) (by_held (bank_behind (precharge_at p) s.trace) refl)
  where
    b : Bus
    b = bus_of s

    p : Place
    p = r.place

    t : Timing
    t = s.config.timing

    old : Earliest
    old = earliest s r

    new : Earliest
    new = earliest (behind_command s after (precharge_at p)) r

    column : new.column ≤ old.column
    column =
        column_less (column_from t (column_of false r) s.trace) (column_from t (column_of false r) (s.trace ++ entry s.now (precharge_at p) ∷ [])) (room_from s.flight) (room_from after)
        (column_still t (column_of false r) s.trace (entry s.now (precharge_at p)) refl refl refl refl) f.room

    grown : new.activate ≤ max old.activate (s.now + t.rp)
    grown = activate_closed t p s.trace s.now

    -- whether the bank is on another row, by what the trace makes of it
    is_other : Option OpenBank → Bool
    is_other o = is_some (open_row t s.now o) && not (is_row (open_row t s.now o) p.row)

    over_auto : (bank : OpenBank) (a : Entry) → bank_behind (precharge_at p) s.trace ≡ Some bank → bank.auto ≡ Some a → (w : Bool) → leb (auto_start t bank a) s.now ≡ w → s.now + t.rp ≤ old.activate
    over_auto bank a held stays true started =
        let row : open_row t s.now (bank_behind (precharge_at p) s.trace) ≡ None = ap (open_row t s.now) held ∙ ap (row_until t s.now bank) stays ∙ rw started refl in
        let none : is_on_other_row b p ≡ false = ap (λ o. is_some o && not (is_row o p.row)) row in
        absurd (false≢true (sym none ∙ other))
    over_auto bank a held stays false started =
        let early : s.now < auto_start t bank a = grind (arith, nat_tests) in
        let auto : auto_from t (bank_behind (precharge_at p) s.trace) ≡ auto_start t bank a + t.rp = ap (auto_from t) held ∙ ap (auto_behind t bank) stays in
        let least = auto_least t p s.trace in
        omega (arith, early, auto, least)

    by_row : (bank : OpenBank) → bank_behind (precharge_at p) s.trace ≡ Some bank → bank.auto ≡ None → (w : Bool) → eqb bank.row p.row ≡ w →
        by_opening t new ≤ cond w (max old.now (max (bank.since + t.rcd) old.column)) (max (max (max old.now old.precharge + t.rp) old.activate + t.rcd) old.column)
    by_row bank held stays true row =
        let same : is_on_other_row b p ≡ false = on_row b p bank.row (ap (open_row t s.now) held ∙ ap (row_until t s.now bank) stays) ∙ ap not row in
        absurd (false≢true (sym same ∙ other))
    by_row bank held stays false row = closed_by s.now old.precharge old.activate new.activate old.column new.column t.rcd t.rp t.rp_range.0 grown column

    by_auto : (bank : OpenBank) → bank_behind (precharge_at p) s.trace ≡ Some bank → (auto : Option Entry) → bank.auto ≡ auto → by_opening t new ≤ by_bank t old p.row bank auto
    by_auto bank held (Some a) stays = closed_early s.now old.activate new.activate old.column new.column t.rcd t.rp t.rp_range.0 (over_auto bank a held stays (leb (auto_start t bank a) s.now) refl) grown column
    by_auto bank held None stays = by_row bank held stays (eqb bank.row p.row) refl

    by_held : (o : Option OpenBank) → bank_behind (precharge_at p) s.trace ≡ o → by_opening t new ≤ comes_by t old p.row o
    by_held None held = absurd (false≢true (sym (ap is_other held) ∙ other))
    by_held (Some bank) held = by_auto bank held bank.auto refl

-- each choice

no_place : (x : Bool) → column_place_of (cond x (choice.ColumnAuto 0) (choice.Column 0)) ≡ None → ⊥
no_place true is = cc
no_place false is = cc

legal_full : (room legal : Bool) → (room && legal) ≡ false → legal ≡ true → room ≡ false
legal_full true legal both is = absurd (false≢true (sym both ∙ is))
legal_full false legal both is = refl

pub own_step_keeps : (s : State) (w : Waiting) → IsSound s → s.done ≡ [] → IsServedAlone (situation_of (at_choice s)) w → column_place_of (choice_of (at_choice s)) ≡ None → served_by (after_cycle s) w.request ≤ served_by s w.request
own_step_keeps s w sound none alone no_column =
    by_tests (has_room g && is_legal_now b (column_of false r)) (can_activate b p) (is_on_other_row b p && is_legal_now b (precharge_at p)) refl refl refl
  where
    g : State
    g = at_choice s

    b : Bus
    b = bus_of s

    r : Request
    r = w.request

    p : Place
    p = w.request.place

    oldest : slice_get s.pending 0 ≡ Some w
    oldest = alone.first.oldest

    f : Finds s r g.flight
    f = record {
      next = record { begun = sound.begun; legal = sound.legal };
      served = All-at (λ (v : Waiting). IsServed s.config v.request.place) s.pending 0 w sound.served oldest;
      room = room_less s.now s.flight;
    }

    chosen : choice_of g ≡ own_step (situation_of g) w
    chosen = served_alone (situation_of g) w alone

    -- the choice is this one
    by_choice : (c : Choice) → choice_of g ≡ c → served_by (ticked (issued c g)) r ≤ served_by s r → served_by (after_cycle s) r ≤ served_by s r
    by_choice c is kept = subst (λ d. served_by (ticked (issued d g)) r ≤ served_by s r) (sym is) kept

    by_tests : (column act pre : Bool) → (has_room g && is_legal_now b (column_of false r)) ≡ column → can_activate b p ≡ act → (is_on_other_row b p && is_legal_now b (precharge_at p)) ≡ pre →
        served_by (after_cycle s) r ≤ served_by s r
    by_tests true act pre at opens closes =
        let it : choice_of g ≡ column_choice s.config.limits.closed s.pending 0 = chosen ∙ rw at refl in
        absurd (no_place (s.config.limits.closed && not (is_row_shared s.pending 0)) (sym (ap column_place_of it) ∙ no_column))
    by_tests false true pre at opens closes =
        by_choice (choice.Act 0) (chosen ∙ rw (at, opens) refl)
        (subst (λ o. served_by (ticked (recorded (option_map (λ (v : Waiting). activate_at v.request.place) o) g)) r ≤ served_by s r) (sym oldest) (act_keeps s r g.flight f opens))
    by_tests false false true at opens closes =
        by_choice (choice.Pre 0) (chosen ∙ rw (at, opens, closes) refl)
        (subst (λ o. served_by (ticked (recorded (option_map (λ (v : Waiting). precharge_at v.request.place) o) g)) r ≤ served_by s r) (sym oldest) (pre_keeps s r g.flight f (and_parts (is_on_other_row b p) (is_legal_now b (precharge_at p)) closes).0))
    by_tests false false false at opens closes =
        by_choice choice.Nothing (chosen ∙ rw (at, opens, closes) refl)
        (nothing_keeps s r g.flight f opens closes (λ legal. held_up s sound none (legal_full (has_room g) (is_legal_now b (column_of false r)) at legal)))
