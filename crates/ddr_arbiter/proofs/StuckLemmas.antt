-- Until when nothing can be chosen for the candidates of a bank, by its row and the first cycle of one command.
use Rattle.std.proofs.Common.{◌≡◌, ℕ, ◌+◌, ◌<◌, ◌≤◌, Bool, true, false, ◌&&◌, nat_le, List, Option, Some, None, refl, sym, ap, ◌∙◌, inl, inr, arith}
use Rattle.std.specs.Option.{is_none, option_map_or}
use Rattle.std.proofs.lemmas.Bool.{and_parts, and_right, cases_Bool, eq-eqb, lt-leb, false≢true, true≢false}
use Rattle.ddr_timing.specs.declared.config.Config.{Config}
use Rattle.ddr_timing.specs.declared.timing.Timing.{Timing}
use Rattle.ddr_trace.specs.declared.bank.OpenBank.{OpenBank}
use Rattle.ddr_trace.specs.declared.command.Command.{Command}
use Rattle.ddr_trace.specs.declared.command.Command.TheVariants.{Pre}
use Rattle.ddr_trace.specs.declared.command.Entry.{Entry}
use Rattle.ddr_trace.specs.declared.rule.Rule.TheVariants as rule
use Rattle.ddr_trace.specs.Banks.{bank_behind, open_row, ready_row, row_until, row_without}
use Rattle.ddr_trace.specs.Commands.{entry}
use Rattle.ddr_trace.specs.Rules.{breaks}
use Rattle.ddr_legality.specs.Bus.{Bus, fits_now, is_legal_now, passed}
use Rattle.ddr_address_map.specs.declared.place.Place.{Place}
use Rattle.ddr_address_map.specs.declared.request.Kind.{Kind}
use Rattle.ddr_address_map.specs.declared.request.Kind.TheVariants.{Read, Write}
use Rattle.ddr_hazards.specs.declared.waiting.Waiting.{Waiting}
use Rattle.ddr_hazards.specs.PendingList.{is_same_kind}
use Rattle.ddr_arbiter.specs.declared.candidates.CandidateSet.{CandidateSet}
use Rattle.ddr_arbiter.specs.declared.choice.Choice.TheVariants as choice
use Rattle.ddr_arbiter.specs.Choice.{can_column, can_precharge, is_open_row_wanted, is_row_open, open_row_at, row_choice_at}
use Rattle.ddr_arbiter.specs.Commands.{activate_at, column_at, column_of, precharge_at}
use Rattle.ddr_arbiter.specs.Known.{AreInOneBank}
use Rattle.ddr_arbiter.specs.CandidateSet.{is_free_of_marks, is_of_kind, places_of}
use Rattle.ddr_arbiter.specs.Until.{AreStuckUntil, IsBankStuckUntil, IsCandidate, IsStuck, IsStuckUntil, MarkTellsUntil}
use Rattle.ddr_arbiter.proofs.ClosingLemmas.{closed_when_legal}
use Rattle.ddr_arbiter.proofs.CommandLemmas.{closed_no_column, column_bank, first_row, legal_keeps}
use Rattle.ddr_arbiter.proofs.KnownLemmas.{bank_refused, row_is}
use Rattle.ddr_arbiter.proofs.RowLemmas.{active_done, candidate_wants, idle_no_precharge, no_act, one_first_row, refused_or_wanted, wanted_or_refused}

-- the first cycle in which a command is allowed

-- the last cycle that a clock can count
abbrev pub LAST_CYCLE : ℕ
LAST_CYCLE = 18446744073709551615

abbrev pub IsAllowedFrom : Bus → Command → ℕ → Type 0
IsAllowedFrom b c first = (cycle : ℕ) → b.now ≤ cycle → cycle < LAST_CYCLE → is_legal_now (record b { now = cycle }) c ≡ (fits_now (record b { now = cycle }) c && nat_le first cycle)

pub refused_before : (b : Bus) (c : Command) (first count : ℕ) → first ≤ LAST_CYCLE → IsAllowedFrom b c first → b.now + count < first → is_legal_now (passed count b) c ≡ false
refused_before b c first count bound allowed before =
    allowed (b.now + count) (omega arith) (omega (arith, bound, before)) ∙ and_right (fits_now (passed count b) c) (nat_le first (b.now + count)) (lt-leb first (b.now + count) before)

-- the row that reads and writes find stays open
ready_open : (t : Timing) (y row : ℕ) (o : Option OpenBank) → ready_row o ≡ Some row → open_row t y o ≡ Some row
ready_open t y row None is = cc
ready_open t y row (Some bank) is = by_auto bank.auto is
  where
    by_auto : (auto : Option Entry) → row_without bank auto ≡ Some row → row_until t y bank auto ≡ Some row
    by_auto None same = same
    by_auto (Some e) none = cc

open_stays : (b : Bus) (p : Place) (row count : ℕ) → ready_row (bank_behind (precharge_at p) b.trace) ≡ Some row → open_row_at (passed count b) p ≡ Some row
open_stays b p row count is = ready_open b.config.timing (b.now + count) row (bank_behind (precharge_at p) b.trace) is

same_ready : (b : Bus) (p q : Place) → AreInOneBank p q → ready_row (bank_behind (precharge_at q) b.trace) ≡ ready_row (bank_behind (precharge_at p) b.trace)
same_ready b p q same =
    ap (λ (r : ℕ). ready_row (bank_behind (Pre r q.group q.bank) b.trace)) (sym same.0) ∙ ap (λ (g : ℕ). ready_row (bank_behind (Pre p.rank g q.bank) b.trace)) (sym same.1)
    ∙ ap (λ (k : ℕ). ready_row (bank_behind (Pre p.rank p.group k) b.trace)) (sym same.2)

-- a bank with no row for reads and writes

-- STATE of a column command, whichever kind it is
column_state : (kind : Kind) (p : Place) (trace : List Entry) (c : Config) (start end now : ℕ) → ready_row (bank_behind (column_at false kind p) trace) ≡ None →
    breaks c start end rule.State trace (entry now (column_at false kind p)) ≡ true
column_state Read p trace c start end now none = rw none refl
column_state Write p trace c start end now none = rw none refl

idle_no_column : (b : Bus) (kind : Kind) (p : Place) → ready_row (bank_behind (precharge_at p) b.trace) ≡ None → is_legal_now b (column_at false kind p) ≡ false
idle_no_column b kind p none = elim (cases_Bool (is_legal_now b (column_at false kind p))) [
  | inl legal ↦
      let broken = column_state kind p b.trace b.config b.start (b.now + 1) b.now (ap ready_row (column_bank false kind p b.trace) ∙ none) in
      absurd (true≢false (sym broken ∙ legal_keeps b (column_at false kind p) legal rule.State refl))
  | inr not_legal ↦ not_legal
]

closing_no_precharge : (b : Bus) (waiting : List Waiting) (places : List ℕ) (p : Place) → ready_row (bank_behind (precharge_at p) b.trace) ≡ None → can_precharge b waiting places p ≡ false
closing_no_precharge b waiting places p none = elim (cases_Bool (is_legal_now b (precharge_at p))) [
  | inl legal ↦ idle_no_precharge b waiting places p (closed_when_legal b p legal ∙ none)
  | inr not_legal ↦ and_right _ (is_legal_now b (precharge_at p)) not_legal
]

pub idle_stuck : (b : Bus) (c : CandidateSet) (waiting : List Waiting) (room : Bool) (p : Place) (first : ℕ) → ready_row (bank_behind (precharge_at p) b.trace) ≡ None → first ≤ LAST_CYCLE →
    IsAllowedFrom b (activate_at (first_row p)) first → IsBankStuckUntil first b c waiting room p
idle_stuck b c waiting room p first none bound allowed = λ place w candidate same count before.
    let q : Place = w.request.place in
    let idle : ready_row (bank_behind (precharge_at q) b.trace) ≡ None = same_ready b p q same ∙ none in
    let refused : is_legal_now (passed count b) (activate_at (first_row q)) ≡ false = one_first_row (passed count b) p q same ∙ refused_before b (activate_at (first_row p)) first count bound allowed before in (
      (λ has_room. idle_no_column (passed count b) c.kind q idle),
      (
        and_right (is_none (open_row_at (passed count b) q)) (is_legal_now (passed count b) (activate_at q)) (no_act (passed count b) q refused),
        closing_no_precharge (passed count b) waiting (places_of c waiting) q idle,
      ),
    )

-- a bank whose row no candidate wants
pub unwanted_stuck : (b : Bus) (c : CandidateSet) (waiting : List Waiting) (room : Bool) (p : Place) (row first : ℕ) → ready_row (bank_behind (precharge_at p) b.trace) ≡ Some row →
    ((now : Bus) → open_row_at now p ≡ Some row → is_open_row_wanted now waiting (places_of c waiting) p ≡ false) → first ≤ LAST_CYCLE → IsAllowedFrom b (precharge_at p) first →
    IsBankStuckUntil first b c waiting room p
unwanted_stuck b c waiting room p row first ready unwanted bound allowed = λ place w candidate same count before.
    let q : Place = w.request.place in
    let is : open_row_at (passed count b) p ≡ Some row = open_stays b p row count ready in
    let other : is_row_open (passed count b) q ≡ false = elim (cases_Bool (is_row_open (passed count b) q)) [
      | inl opened ↦ absurd (true≢false (sym (candidate_wants (passed count b) c waiting p place w candidate same opened) ∙ unwanted (passed count b) is))
      | inr shut ↦ shut
    ] in (
      (λ has_room. closed_no_column (passed count b) c.kind q other),
      active_done (passed count b) waiting (places_of c waiting) p row is
          (refused_or_wanted _ _ (refused_before b (precharge_at p) first count bound allowed before)) q same,
    )

-- a bank whose row some candidate wants
pub wanted_stuck : (b : Bus) (c : CandidateSet) (waiting : List Waiting) (room : Bool) (p : Place) (row end : ℕ) → ready_row (bank_behind (precharge_at p) b.trace) ≡ Some row →
    ((now : Bus) → open_row_at now p ≡ Some row → is_open_row_wanted now waiting (places_of c waiting) p ≡ true) →
    ((count : ℕ) → b.now + count < end → room ≡ true → is_legal_now (passed count b) (column_at false c.kind (record p { row = row; line = 0 })) ≡ false) →
    IsBankStuckUntil end b c waiting room p
wanted_stuck b c waiting room p row end ready wanted refused = λ place w candidate same count before.
    let q : Place = w.request.place in
    let here : Place = record p { row = row } in
    let is : open_row_at (passed count b) p ≡ Some row = open_stays b p row count ready in
    let opened : is_row_open (passed count b) here ≡ true = row_is (passed count b) here row is ∙ eq-eqb row row refl in (
      (λ has_room. bank_refused (passed count b) c.kind here opened (refused count before has_room) q same),
      active_done (passed count b) waiting (places_of c waiting) p row is (wanted_or_refused _ _ (wanted (passed count b) is)) q same,
    )

-- an earlier end

pub sooner : (later end : ℕ) (b : Bus) (c : CandidateSet) (waiting : List Waiting) (room : Bool) (p : Place) → end ≤ later → IsStuckUntil later b c waiting room p → IsStuckUntil end b c waiting room p
sooner later end b c waiting room p below stuck = λ count before. stuck count (omega (arith, below, before))

pub bank_sooner : (later end : ℕ) (b : Bus) (c : CandidateSet) (waiting : List Waiting) (room : Bool) (p : Place) → end ≤ later → IsBankStuckUntil later b c waiting room p → IsBankStuckUntil end b c waiting room p
bank_sooner later end b c waiting room p below stuck = λ place w candidate same. sooner later end b c waiting room w.request.place below (stuck place w candidate same)

-- what holds of a bank, by another place of it
pub bank_shared : (end : ℕ) (b : Bus) (c : CandidateSet) (waiting : List Waiting) (room : Bool) (p q : Place) → AreInOneBank p q → IsBankStuckUntil end b c waiting room p → IsBankStuckUntil end b c waiting room q
bank_shared end b c waiting room p q same stuck = λ place w candidate there. stuck place w candidate (same.0 ∙ there.0, same.1 ∙ there.1, same.2 ∙ there.2)

pub marks_sooner : (later end : ℕ) (b : Bus) (c : CandidateSet) (waiting : List Waiting) (room : Bool) (marks : List Bool) → end ≤ later → AreStuckUntil later b c waiting room marks →
    AreStuckUntil end b c waiting room marks
marks_sooner later end b c waiting room marks below told = λ p inside. by_mark p _ (told p inside)
  where
    by_mark : (p : Place) (o : Option Bool) → MarkTellsUntil later b c waiting room p o → MarkTellsUntil end b c waiting room p o
    by_mark p (Some true) stuck = bank_sooner later end b c waiting room p below stuck
    by_mark p (Some false) stuck = tt
    by_mark p None stuck = tt

-- a candidate for which nothing can be chosen

same_kind : (k l : Kind) → is_same_kind k l ≡ true → k ≡ l
same_kind Read Read same = refl
same_kind Write Write same = refl
same_kind Read Write same = absurd (false≢true same)
same_kind Write Read same = absurd (false≢true same)

pub stuck_column : (b : Bus) (c : CandidateSet) (waiting : List Waiting) (room : Bool) (place : ℕ) (w : Waiting) → IsCandidate c waiting place w → IsStuck b c waiting room w.request.place → room ≡ true →
    can_column b waiting place ≡ false
stuck_column b c waiting room place w candidate stuck has_room =
    let parts = and_parts (is_of_kind c.kind waiting place) (is_free_of_marks c.forced waiting place) candidate.passes in
    let of_kind : is_same_kind c.kind w.request.echo.kind ≡ true = sym (ap (λ o. option_map_or (λ (v : Waiting). is_same_kind c.kind v.request.echo.kind) o false) candidate.here) ∙ parts.0 in
    ap (λ o. option_map_or (λ (v : Waiting). is_legal_now b (column_of false v.request)) o false) candidate.here
    ∙ ap (λ k. is_legal_now b (column_at false k w.request.place)) (sym (same_kind c.kind w.request.echo.kind of_kind)) ∙ stuck.0 has_room

pub stuck_row : (b : Bus) (c : CandidateSet) (waiting : List Waiting) (room : Bool) (place : ℕ) (w : Waiting) → IsCandidate c waiting place w → IsStuck b c waiting room w.request.place →
    row_choice_at b waiting (places_of c waiting) place ≡ choice.Nothing
stuck_row b c waiting room place w candidate stuck = rw (candidate.here, stuck.1.0, stuck.1.1) refl
