-- A refresh command of another rank puts a request off by the cycle that it takes, and no more.
use Rattle.std.proofs.Common.{◌≡◌, ℕ, ◌+◌, ◌≤◌, Bool, true, false, ◌&&◌, cond, max, eqb, List, [], ◌∷◌, ◌++◌, Option, Some, None, refl, sym, ap, subst, ◌∙◌, arith}
use Rattle.std.proofs.lemmas.Bool.{eqb-true, false_from_ne_true}
use Rattle.ddr_timing.specs.declared.timing.Timing.{Timing}
use Rattle.ddr_trace.specs.declared.bank.OpenBank.{OpenBank}
use Rattle.ddr_trace.specs.declared.command.Command.{Command}
use Rattle.ddr_trace.specs.declared.command.Command.TheVariants.{PreAll, Refresh}
use Rattle.ddr_trace.specs.declared.command.Entry.{Entry}
use Rattle.ddr_trace.specs.declared.rule.Rule.{Rule}
use Rattle.ddr_trace.specs.declared.rule.Rule.TheVariants as rule
use Rattle.ddr_trace.specs.Banks.{bank_behind}
use Rattle.ddr_trace.specs.Commands.{entry, is_activate, is_column, is_read, is_write, rank_of}
use Rattle.ddr_trace.specs.Rules.{Spacing, spacing_of, speaks_of}
use Rattle.ddr_address_map.specs.declared.place.Place.{Place}
use Rattle.ddr_address_map.specs.declared.request.Kind.{Kind}
use Rattle.ddr_address_map.specs.declared.request.Kind.TheVariants.{Read, Write}
use Rattle.ddr_address_map.specs.Requests.{Request}
use Rattle.ddr_arbiter.specs.declared.choice.Choice.{Choice}
use Rattle.ddr_arbiter.specs.declared.choice.Choice.TheVariants as choice
use Rattle.ddr_arbiter.specs.Commands.{activate_at, column_at, column_of, precharge_at}
use Rattle.ddr_arbiter.specs.Laws.{refreshed_rank}
use Rattle.ddr_channel.specs.Choice.{choice_of}
use Rattle.ddr_channel.specs.Cycle.{after_cycle, at_choice, issued, ticked}
use Rattle.ddr_channel.specs.State.{State}
use Rattle.ddr_channel.proofs.BankTimeLemmas.{bank_elsewhere}
use Rattle.ddr_deadline.specs.Behind.{activate_from, auto_from, column_from, four_from, precharge_from, spaced_from, switched_from}
use Rattle.ddr_deadline.specs.Wait.{Earliest, by_bank, comes_by, earliest, room_from, served_by}
use Rattle.ddr_deadline.proofs.GrowthLemmas.{alike_seven, four_still, spaced_still, still, switched_still}
use Rattle.ddr_deadline.proofs.WaitLemmas.{room_less}

-- the command is of another rank than the place's, and neither an ACT nor a read or a write
record IsAside (p : Place) (x : Entry) : Type 0 where
  rank : eqb (rank_of x.command) p.rank ≡ false
  activate : is_activate x.command ≡ false
  read : is_read x.command ≡ false
  write : is_write x.command ≡ false

-- it moves nothing

off : (a b : Bool) → b ≡ false → (a && b) ≡ false
off true b none = none
off false b none = refl

no_pair : (s : Spacing) (command : Command) (history : List Entry) (x : Entry) → s.pairs x.command command ≡ false → spaced_from s command (history ++ x ∷ []) ≡ spaced_from s command history
no_pair s command history x none = still (λ a. speaks_of s a command) (λ _. s.at_least) history x (off (s.earlier x.command && s.later command) (s.pairs x.command command) none)

alike_four : (a b c d a' b' c' d' : ℕ) → a' ≡ a → b' ≡ b → c' ≡ c → d' ≡ d → max (max a' b') (max c' d') ≡ max (max a b) (max c d)
alike_four a b c d a' b' c' d' one two three four = rw (one, two, three, four) refl

precharge_aside : (t : Timing) (p : Place) (history : List Entry) (x : Entry) → IsAside p x → precharge_from t p (history ++ x ∷ []) ≡ precharge_from t p history
precharge_aside t p history x aside =
    let c = precharge_at p in
    let by : Rule → ℕ = λ r. spaced_from (spacing_of t r) c history in
    let new : Rule → ℕ = λ r. spaced_from (spacing_of t r) c (history ++ x ∷ []) in
    alike_four (by rule.Ras) (by rule.Wr) (by rule.Rtp) (by rule.Rfc) (new rule.Ras) (new rule.Wr) (new rule.Rtp) (new rule.Rfc)
    (spaced_still (spacing_of t rule.Ras) c history x aside.activate) (spaced_still (spacing_of t rule.Wr) c history x aside.write)
    (spaced_still (spacing_of t rule.Rtp) c history x aside.read) (no_pair (spacing_of t rule.Rfc) c history x aside.rank)

activate_aside : (t : Timing) (p : Place) (history : List Entry) (x : Entry) → IsAside p x → activate_from t p (history ++ x ∷ []) ≡ activate_from t p history
activate_aside t p history x aside =
    let c = activate_at p in
    let by : Rule → ℕ = λ r. spaced_from (spacing_of t r) c history in
    let new : Rule → ℕ = λ r. spaced_from (spacing_of t r) c (history ++ x ∷ []) in
    alike_seven (by rule.Rc) (by rule.Rp) (by rule.RrdL) (by rule.RrdS) (by rule.Rfc) (four_from t c history) (auto_from t (bank_behind (precharge_at p) history))
    (new rule.Rc) (new rule.Rp) (new rule.RrdL) (new rule.RrdS) (new rule.Rfc) (four_from t c (history ++ x ∷ [])) (auto_from t (bank_behind (precharge_at p) (history ++ x ∷ [])))
    (spaced_still (spacing_of t rule.Rc) c history x aside.activate) (no_pair (spacing_of t rule.Rp) c history x (rw aside.rank refl))
    (spaced_still (spacing_of t rule.RrdL) c history x aside.activate) (spaced_still (spacing_of t rule.RrdS) c history x aside.activate)
    (no_pair (spacing_of t rule.Rfc) c history x aside.rank) (four_still t c history x aside.activate)
    (ap (auto_from t) (bank_elsewhere p.rank p.group p.bank history x aside.rank))

column_rank : (kind : Kind) (p : Place) → rank_of (column_at false kind p) ≡ p.rank
column_rank Read p = refl
column_rank Write p = refl

column_aside : (t : Timing) (r : Request) (history : List Entry) (x : Entry) → IsAside r.place x → column_from t (column_of false r) (history ++ x ∷ []) ≡ column_from t (column_of false r) history
column_aside t r history x aside =
    let c = column_of false r in
    let by : Rule → ℕ = λ u. spaced_from (spacing_of t u) c history in
    let new : Rule → ℕ = λ u. spaced_from (spacing_of t u) c (history ++ x ∷ []) in
    let column : is_column x.command ≡ false = rw (aside.read, aside.write) refl in
    let other : eqb (rank_of x.command) (rank_of c) ≡ false = ap (eqb (rank_of x.command)) (column_rank r.echo.kind r.place) ∙ aside.rank in
    alike_seven (by rule.CcdL) (by rule.CcdS) (by rule.WtrL) (by rule.WtrS) (by rule.Rtw) (by rule.Rfc) (switched_from t c history)
    (new rule.CcdL) (new rule.CcdS) (new rule.WtrL) (new rule.WtrS) (new rule.Rtw) (new rule.Rfc) (switched_from t c (history ++ x ∷ []))
    (spaced_still (spacing_of t rule.CcdL) c history x column) (spaced_still (spacing_of t rule.CcdS) c history x column)
    (spaced_still (spacing_of t rule.WtrL) c history x aside.write) (spaced_still (spacing_of t rule.WtrS) c history x aside.write)
    (spaced_still (spacing_of t rule.Rtw) c history x aside.read) (no_pair (spacing_of t rule.Rfc) c history x other)
    (switched_still t c history x column)

-- so a cycle that issues it, or nothing, counts by its clock alone

-- each cycle is as it was, but for now
record IsLater (old new : Earliest) : Type 0 where
  now : new.now ≡ old.now + 1
  precharge : new.precharge ≡ old.precharge
  activate : new.activate ≡ old.activate
  column : new.column ≤ old.column

opening_later : (now act col later rcd : ℕ) → later ≤ col → max (max (now + 1) act + rcd) later ≤ max (max now act + rcd) col + 1
opening_later now act col later rcd less = omega (arith, less)

own_later : (now since col later : ℕ) → later ≤ col → max (now + 1) (max since later) ≤ max now (max since col) + 1
own_later now since col later less = omega (arith, less)

other_later : (now pre act col later rcd rp : ℕ) → later ≤ col → max (max (max (now + 1) pre + rp) act + rcd) later ≤ max (max (max now pre + rp) act + rcd) col + 1
other_later now pre act col later rcd rp less = omega (arith, less)

comes_later : (t : Timing) (old new : Earliest) (row : ℕ) (o : Option OpenBank) → IsLater old new → comes_by t new row o ≤ comes_by t old row o + 1
comes_later t old new row o k = rw (k.now, k.precharge, k.activate) (by_held o)
  where
    by_row : (bank : OpenBank) (w : Bool) →
        cond w (max (old.now + 1) (max (bank.since + t.rcd) new.column)) (max (max (max (old.now + 1) old.precharge + t.rp) old.activate + t.rcd) new.column)
        ≤ cond w (max old.now (max (bank.since + t.rcd) old.column)) (max (max (max old.now old.precharge + t.rp) old.activate + t.rcd) old.column) + 1
    by_row bank true = own_later old.now (bank.since + t.rcd) old.column new.column k.column
    by_row bank false = other_later old.now old.precharge old.activate old.column new.column t.rcd t.rp k.column

    -- the new cycles, by the old ones
    moved : Earliest
    moved = record { now = old.now + 1; precharge = old.precharge; activate = old.activate; column = new.column }

    by_auto : (bank : OpenBank) (auto : Option Entry) → by_bank t moved row bank auto ≤ by_bank t old row bank auto + 1
    by_auto bank (Some a) = opening_later old.now old.activate old.column new.column t.rcd k.column
    by_auto bank None = by_row bank (eqb bank.row row)

    by_held : (o : Option OpenBank) → comes_by t moved row o ≤ comes_by t old row o + 1
    by_held None = opening_later old.now old.activate old.column new.column t.rcd k.column
    by_held (Some bank) = by_auto bank bank.auto

less : (c new room after : ℕ) → new ≡ c → after ≤ room → max new after ≤ max c room
less c new room after same most = omega (arith, same, most)

-- the state behind a cycle of a command
abbrev behind_entry : State → Entry → State
behind_entry s x = record s { now = s.now + 1; flight = (at_choice s).flight; trace = s.trace ++ x ∷ [] }

aside_keeps : (s : State) (r : Request) (x : Entry) → IsAside r.place x → served_by (behind_entry s x) r ≤ served_by s r + 1
aside_keeps s r x aside =
    let t = s.config.timing in
    let p = r.place in
    let n = behind_entry s x in
    let later : IsLater (earliest s r) (earliest n r) = record {
      now = refl;
      precharge = precharge_aside t p s.trace x aside;
      activate = activate_aside t p s.trace x aside;
      column = less (column_from t (column_of false r) s.trace) (column_from t (column_of false r) n.trace) (room_from s.flight) (room_from n.flight) (column_aside t r s.trace x aside) (room_less s.now s.flight);
    } in
    subst (λ o. comes_by t (earliest n r) p.row o ≤ served_by s r + 1) (sym (bank_elsewhere p.rank p.group p.bank s.trace x aside.rank)) (comes_later t (earliest s r) (earliest n r) p.row (bank_behind (precharge_at p) s.trace) later)

pub other_keeps : (s : State) (r : Request) (rank : ℕ) → refreshed_rank (choice_of (at_choice s)) ≡ Some rank → (rank ≡ r.place.rank → ⊥) → served_by (after_cycle s) r ≤ served_by s r + 1
other_keeps s r rank is other = by_choice (choice_of (at_choice s)) refl
  where
    elsewhere : (k : ℕ) → k ≡ rank → eqb k r.place.rank ≡ false
    elsewhere k same = false_from_ne_true (eqb k r.place.rank) (λ it. other (sym same ∙ eqb-true k r.place.rank it))

    -- the choice is this one
    by : (c : Choice) → choice_of (at_choice s) ≡ c → served_by (ticked (issued c (at_choice s))) r ≤ served_by s r + 1 → served_by (after_cycle s) r ≤ served_by s r + 1
    by c chosen kept = subst (λ d. served_by (ticked (issued d (at_choice s))) r ≤ served_by s r + 1) (sym chosen) kept

    by_choice : (c : Choice) → choice_of (at_choice s) ≡ c → served_by (after_cycle s) r ≤ served_by s r + 1
    by_choice (choice.Refresh k) chosen =
        let told : Some k ≡ Some rank = sym (ap refreshed_rank chosen) ∙ is in
        let same : k ≡ rank = cc in
        by (choice.Refresh k) chosen (aside_keeps s r (entry s.now (Refresh k)) (record { rank = elsewhere k same; activate = refl; read = refl; write = refl }))
    by_choice (choice.PreAll k) chosen =
        let told : Some k ≡ Some rank = sym (ap refreshed_rank chosen) ∙ is in
        let same : k ≡ rank = cc in
        by (choice.PreAll k) chosen (aside_keeps s r (entry s.now (PreAll k)) (record { rank = elsewhere k same; activate = refl; read = refl; write = refl }))
    by_choice choice.Nothing chosen = let none : None ≡ Some rank = sym (ap refreshed_rank chosen) ∙ is in cc
    by_choice (choice.Act place) chosen = let none : None ≡ Some rank = sym (ap refreshed_rank chosen) ∙ is in cc
    by_choice (choice.Pre place) chosen = let none : None ≡ Some rank = sym (ap refreshed_rank chosen) ∙ is in cc
    by_choice (choice.Column place) chosen = let none : None ≡ Some rank = sym (ap refreshed_rank chosen) ∙ is in cc
    by_choice (choice.ColumnAuto place) chosen = let none : None ≡ Some rank = sym (ap refreshed_rank chosen) ∙ is in cc
