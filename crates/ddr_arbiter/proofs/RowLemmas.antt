-- Lemmas on the ACT and the PRE of requests to one bank.
use Rattle.std.proofs.Common.{◌≡◌, ℕ, zero, suc, ◌+◌, ◌<◌, Bool, true, false, ◌&&◌, not, eqb, ltb, List, [], ◌∷◌, Some, None, refl, sym, ap, ◌∙◌, inl, inr, arith}
use Rattle.std.specs.List.{filter, list_any, range_with_len, slice_get}
use Rattle.std.specs.Option.{is_none, is_some, option_map_or}
use Rattle.std.proofs.lemmas.Bool.{and_from, and_parts, cases_Bool, eq-eqb, eqb-true, lt-ltb, ltb-true, false≢true, true≢false}
use Rattle.ddr_trace.specs.declared.command.Command.TheVariants.{Act, Pre}
use Rattle.ddr_trace.specs.Banks.{is_row}
use Rattle.ddr_legality.specs.Bus.{Bus, is_legal_now}
use Rattle.ddr_address_map.specs.declared.place.Place.{Place}
use Rattle.ddr_hazards.specs.declared.waiting.Waiting.{Waiting}
use Rattle.ddr_arbiter.specs.Choice.{can_activate, can_precharge, is_on_other_row, is_open_row_wanted, is_row_open, open_row_at, passes_at, wants_open_row}
use Rattle.ddr_arbiter.specs.Commands.{activate_at, precharge_at}
use Rattle.ddr_hazards.specs.Banks.{in_bank, is_in_bank}
use Rattle.ddr_arbiter.specs.declared.candidates.CandidateSet.{CandidateSet}
use Rattle.ddr_arbiter.specs.Known.{AreInOneBank, HasNoStep}
use Rattle.ddr_arbiter.specs.CandidateSet.{is_candidate, places_of, wants}
use Rattle.ddr_arbiter.specs.Until.{IsCandidate}
use Rattle.ddr_arbiter.proofs.BankPlaceLemmas.{listed_place, place_of_bank}
use Rattle.ddr_arbiter.proofs.LawLemmas.{passes_some}
use Rattle.ddr_arbiter.proofs.PlaceLemmas.{any_here, any_none_more}
use Rattle.ddr_arbiter.proofs.CommandLemmas.{first_row, first_row_legal, on_row}
use Rattle.ddr_arbiter.proofs.KnownLemmas.{row_is, same_open_row}

-- an idle bank

-- has nothing to precharge
pub idle_no_precharge : (b : Bus) (waiting : List Waiting) (places : List ℕ) (q : Place) → open_row_at b q ≡ None → can_precharge b waiting places q ≡ false
idle_no_precharge b waiting places q none =
    let stays : is_on_other_row b q ≡ false = ap (λ o. is_some o && not (is_row o q.row)) none in
    rw stays refl

-- the first rows of the places of a bank are one
pub one_first_row : (b : Bus) (p q : Place) → AreInOneBank p q → is_legal_now b (activate_at (first_row q)) ≡ is_legal_now b (activate_at (first_row p))
one_first_row b p q same =
    ap (λ (r : ℕ). is_legal_now b (Act r q.group q.bank 0)) (sym same.0) ∙ ap (λ (g : ℕ). is_legal_now b (Act p.rank g q.bank 0)) (sym same.1)
    ∙ ap (λ (k : ℕ). is_legal_now b (Act p.rank p.group k 0)) (sym same.2)

pub no_act : (b : Bus) (q : Place) → is_legal_now b (activate_at (first_row q)) ≡ false → is_legal_now b (activate_at q) ≡ false
no_act b q first = elim (cases_Bool (is_legal_now b (activate_at q))) [
  | inl legal ↦ absurd (true≢false (sym (first_row_legal b q legal) ∙ first))
  | inr not_legal ↦ not_legal
]

and_last : (x y : Bool) → y ≡ false → (x && y) ≡ false
and_last true y none = none
and_last false y none = refl

pub idle_done : (b : Bus) (waiting : List Waiting) (places : List ℕ) (p : Place) → open_row_at b p ≡ None → is_legal_now b (activate_at (first_row p)) ≡ false →
    (q : Place) → AreInOneBank p q → HasNoStep b waiting places q
idle_done b waiting places p none first q same = (
  and_last (is_none (open_row_at b q)) (is_legal_now b (activate_at q)) (no_act b q (one_first_row b p q same ∙ first)),
  idle_no_precharge b waiting places q (same_open_row b p q same ∙ none),
)

pub idle_acts : (b : Bus) (p : Place) → open_row_at b p ≡ None → is_legal_now b (activate_at p) ≡ true → can_activate b p ≡ true
idle_acts b p none legal = rw none legal

pub idle_waits : (b : Bus) (waiting : List Waiting) (places : List ℕ) (p : Place) → open_row_at b p ≡ None → is_legal_now b (activate_at p) ≡ false → HasNoStep b waiting places p
idle_waits b waiting places p none not_legal =
    (and_last (is_none (open_row_at b p)) (is_legal_now b (activate_at p)) not_legal, idle_no_precharge b waiting places p none)

-- an active bank

-- has nothing to activate
pub active_no_act : (b : Bus) (q : Place) (row : ℕ) → open_row_at b q ≡ Some row → can_activate b q ≡ false
active_no_act b q row is = ap (λ o. is_none o && is_legal_now b (activate_at q)) is

-- its own row waits
pub own_waits : (b : Bus) (waiting : List Waiting) (places : List ℕ) (p : Place) (row : ℕ) → open_row_at b p ≡ Some row → eqb row p.row ≡ true → HasNoStep b waiting places p
own_waits b waiting places p row is own =
    let stays : is_on_other_row b p ≡ false = on_row b p row is ∙ ap not own in
    (active_no_act b p row is, rw stays refl)

one_precharge : (b : Bus) (p q : Place) → AreInOneBank p q → is_legal_now b (precharge_at q) ≡ is_legal_now b (precharge_at p)
one_precharge b p q same =
    ap (λ (r : ℕ). is_legal_now b (Pre r q.group q.bank)) (sym same.0) ∙ ap (λ (g : ℕ). is_legal_now b (Pre p.rank g q.bank)) (sym same.1)
    ∙ ap (λ (k : ℕ). is_legal_now b (Pre p.rank p.group k)) (sym same.2)

one_wanted : (b : Bus) (waiting : List Waiting) (places : List ℕ) (p q : Place) → AreInOneBank p q → is_open_row_wanted b waiting places q ≡ is_open_row_wanted b waiting places p
one_wanted b waiting places p q same =
    ap (λ (r : ℕ). is_open_row_wanted b waiting places (record q { rank = r })) (sym same.0)
    ∙ ap (λ (g : ℕ). is_open_row_wanted b waiting places (record q { rank = p.rank; group = g })) (sym same.1)
    ∙ ap (λ (k : ℕ). is_open_row_wanted b waiting places (record q { rank = p.rank; group = p.group; bank = k })) (sym same.2)

no_precharge : (x y z : Bool) → (z && not y) ≡ false → ((x && not y) && z) ≡ false
no_precharge true true z none = refl
no_precharge true false true none = absurd (true≢false none)
no_precharge true false false none = refl
no_precharge false y z none = refl

-- where its PRE is not legal or its open row is wanted
pub active_done : (b : Bus) (waiting : List Waiting) (places : List ℕ) (p : Place) (row : ℕ) → open_row_at b p ≡ Some row →
    (is_legal_now b (precharge_at p) && not (is_open_row_wanted b waiting places p)) ≡ false → (q : Place) → AreInOneBank p q → HasNoStep b waiting places q
active_done b waiting places p row is none q same =
    let here : (is_legal_now b (precharge_at q) && not (is_open_row_wanted b waiting places q)) ≡ false =
    ap (λ x. x && not (is_open_row_wanted b waiting places q)) (one_precharge b p q same) ∙ ap (λ y. is_legal_now b (precharge_at p) && not y) (one_wanted b waiting places p q same) ∙ none in
    (active_no_act b q row (same_open_row b p q same ∙ is), no_precharge (is_on_other_row b q) (is_open_row_wanted b waiting places q) (is_legal_now b (precharge_at q)) here)

pub precharges : (b : Bus) (waiting : List Waiting) (places : List ℕ) (p : Place) (row : ℕ) → open_row_at b p ≡ Some row → eqb row p.row ≡ false →
    is_legal_now b (precharge_at p) ≡ true → is_open_row_wanted b waiting places p ≡ false → (can_activate b p ≡ false) × (can_precharge b waiting places p ≡ true)
precharges b waiting places p row is other legal free =
    let moved : is_on_other_row b p ≡ true = on_row b p row is ∙ ap not other in
    (active_no_act b p row is, rw (moved, free) legal)

-- whether a candidate of a bank wants its open row

any_kept : (kept test : ℕ → Bool) (xs : List ℕ) → list_any test (filter kept xs) ≡ list_any (λ x. kept x && test x) xs
any_kept kept test [] = refl
any_kept kept test (x ∷ xs) = by_kept (kept x) refl (any_kept kept test xs)
  where
    by_kept : (w : Bool) → kept x ≡ w → list_any test (filter kept xs) ≡ list_any (λ y. kept y && test y) xs → list_any test (filter kept (x ∷ xs)) ≡ list_any (λ y. kept y && test y) (x ∷ xs)
    by_kept true e rest = rw (e, rest) refl
    by_kept false e rest = rw (e, rest) refl

any_none : (test : ℕ → Bool) (n : ℕ) → ((k : ℕ) → k < n → test k ≡ false) → list_any test (range_with_len 0 n) ≡ false
any_none test zero fails = refl
any_none test (suc n) fails =
    let next : suc n ≡ n + 1 = omega arith in
    ap (λ k. list_any test (range_with_len 0 k)) next ∙ any_none_more test n (any_none test n (λ k within. fails k (omega (arith, within)))) (fails n (omega arith))

-- a request of the bank of the place
of_bank : (p : Place) (w : Waiting) → is_in_bank p.rank p.group p.bank w ≡ true → AreInOneBank p w.request.place
of_bank p w is =
    let parts = and_parts (eqb w.request.place.rank p.rank) (eqb w.request.place.group p.group && eqb w.request.place.bank p.bank) is in
    let last = and_parts (eqb w.request.place.group p.group) (eqb w.request.place.bank p.bank) parts.1 in
    (sym (eqb-true w.request.place.rank p.rank parts.0), sym (eqb-true w.request.place.group p.group last.0), sym (eqb-true w.request.place.bank p.bank last.1))

-- what the test of an open row says at a request
abbrev is_wanting : Bus → Place → Waiting → Bool
is_wanting b p w = wants_open_row b p w.request.place

-- a candidate of the bank whose row is the open one
pub candidate_wants : (b : Bus) (c : CandidateSet) (waiting : List Waiting) (p : Place) (place : ℕ) (w : Waiting) → IsCandidate c waiting place w → AreInOneBank p w.request.place →
    is_row_open b w.request.place ≡ true → is_open_row_wanted b waiting (places_of c waiting) p ≡ true
candidate_wants b c waiting p place w candidate bank opened =
    let here : is_wanting b p w ≡ true = rw (eq-eqb w.request.place.rank p.rank (sym bank.0), eq-eqb w.request.place.group p.group (sym bank.1), eq-eqb w.request.place.bank p.bank (sym bank.2)) opened in
    let test : passes_at (is_wanting b p) waiting place ≡ true = ap (λ o. option_map_or (is_wanting b p) o false) candidate.here ∙ here in
    any_kept (is_candidate c waiting) (passes_at (is_wanting b p) waiting) (range_with_len 0 c.count)
    ∙ any_here (λ x. is_candidate c waiting x && passes_at (is_wanting b p) waiting x) c.count place candidate.within
    (and_from (is_candidate c waiting place) (passes_at (is_wanting b p) waiting place) candidate.passes test)

-- a candidate of the bank that wants the row
pub found_wanted : (b : Bus) (c : CandidateSet) (waiting : List Waiting) (p : Place) (row k place : ℕ) → open_row_at b p ≡ Some row →
    in_bank p.rank p.group p.bank k waiting ≡ Some place → wants c row waiting place ≡ true → is_open_row_wanted b waiting (places_of c waiting) p ≡ true
found_wanted b c waiting p row k place is there wanted =
    let at = place_of_bank p.rank p.group p.bank k place waiting there in
    let w : Waiting = at.0 in
    let parts = and_parts (passes_at (λ v. eqb v.request.place.row row) waiting place) (ltb place c.count && is_candidate c waiting place) wanted in
    let rest = and_parts (ltb place c.count) (is_candidate c waiting place) parts.1 in
    let own : eqb w.request.place.row row ≡ true = sym (ap (λ o. option_map_or (λ (v : Waiting). eqb v.request.place.row row) o false) at.1) ∙ parts.0 in
    let bank = of_bank p w at.2 in
    let opened : is_row_open b w.request.place ≡ true = row_is b w.request.place row (same_open_row b p w.request.place bank ∙ is) ∙ eq-eqb row w.request.place.row (sym (eqb-true w.request.place.row row own)) in
    candidate_wants b c waiting p place w (record { within = ltb-true place c.count rest.0; passes = rest.1; here = at.1 }) bank opened

never_true : (t : Bool) → (t ≡ true → ⊥) → t ≡ false
never_true true never = absurd (never refl)
never_true false never = refl

-- none of them does
pub none_wanted : (b : Bus) (c : CandidateSet) (waiting : List Waiting) (p : Place) (row : ℕ) → open_row_at b p ≡ Some row →
    ((j place : ℕ) → in_bank p.rank p.group p.bank j waiting ≡ Some place → wants c row waiting place ≡ false) → is_open_row_wanted b waiting (places_of c waiting) p ≡ false
none_wanted b c waiting p row is none =
    any_kept (is_candidate c waiting) (passes_at (is_wanting b p) waiting) (range_with_len 0 c.count)
    ∙ any_none (λ x. is_candidate c waiting x && passes_at (is_wanting b p) waiting x) c.count (λ place within. at_place place within)
  where
    at_place : (place : ℕ) → place < c.count → (is_candidate c waiting place && passes_at (is_wanting b p) waiting place) ≡ false
    at_place place within = never_true _ (λ passes.
        let parts = and_parts (is_candidate c waiting place) (passes_at (is_wanting b p) waiting place) passes in
        let found = passes_some (is_wanting b p) (slice_get waiting place) parts.1 in
        let w : Waiting = found.0 in
        let ranks = and_parts (eqb w.request.place.rank p.rank) _ found.2 in
        let groups = and_parts (eqb w.request.place.group p.group) _ ranks.1 in
        let banks = and_parts (eqb w.request.place.bank p.bank) (is_row_open b w.request.place) groups.1 in
        let bank : AreInOneBank p w.request.place = (sym (eqb-true _ _ ranks.0), sym (eqb-true _ _ groups.0), sym (eqb-true _ _ banks.0)) in
        let listed = listed_place p.rank p.group p.bank place w waiting found.1 (rw (ranks.0, groups.0, banks.0) refl) in
        let own : eqb row w.request.place.row ≡ true = sym (row_is b w.request.place row (same_open_row b p w.request.place bank ∙ is)) ∙ banks.1 in
        let same : eqb w.request.place.row row ≡ true = eq-eqb w.request.place.row row (sym (eqb-true row w.request.place.row own)) in
        let row_test : passes_at (λ v. eqb v.request.place.row row) waiting place ≡ true = ap (λ o. option_map_or (λ (v : Waiting). eqb v.request.place.row row) o false) found.1 ∙ same in
        let wanted : wants c row waiting place ≡ true =
        and_from (passes_at (λ v. eqb v.request.place.row row) waiting place) (ltb place c.count && is_candidate c waiting place) row_test
        (and_from (ltb place c.count) (is_candidate c waiting place) (lt-ltb place c.count within) parts.0) in
        false≢true (sym (none listed.0 place listed.1) ∙ wanted))

-- either keeps the bank from being precharged

pub refused_or_wanted : (legal wanted : Bool) → legal ≡ false → (legal && not wanted) ≡ false
refused_or_wanted legal wanted none = rw none refl

pub wanted_or_refused : (legal wanted : Bool) → wanted ≡ true → (legal && not wanted) ≡ false
wanted_or_refused true wanted is = ap not is
wanted_or_refused false wanted is = refl
