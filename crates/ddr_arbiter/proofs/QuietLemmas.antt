-- Where nothing can be chosen for a rank that has to be refreshed, no refresh falls due, the oldest request's age stays on its side of the cap and nothing can be
-- chosen for any candidate, nothing is chosen.
use Rattle.std.proofs.Common.{◌≡◌, ℕ, zero, suc, ◌+◌, ◌<◌, ◌≤◌, Bool, true, false, ◌&&◌, ◌||◌, not, cond, nat_lt, nat_le, List, [], ◌∷◌, map, length, get_or, Option, Some, None, refl, sym, ap, ◌∙◌, inl, inr, All, arith}
use Rattle.std.specs.List.{filter, find, range_with_len, slice_get}
use Rattle.std.specs.Option.{option_map, option_map_or}
use Rattle.std.proofs.lemmas.Bool.{and_parts, cases_Bool, false≢true, or_parts}
use Rattle.std.proofs.lemmas.List.Elements.{All-get_or}
use Rattle.std.proofs.lemmas.Option.{get_or_from_slice_get, slice_get-map, slice_get_past, slice_get_within}
use Rattle.ddr_legality.specs.Bus.{Bus}
use Rattle.ddr_address_map.specs.declared.request.Kind.TheVariants.{Read}
use Rattle.ddr_hazards.specs.declared.waiting.Waiting.{Waiting}
use Rattle.ddr_hazards.specs.Hazards.{is_blocked}
use Rattle.ddr_hazards.specs.PendingList.{is_same_kind}
use Rattle.ddr_refresh.specs.Refreshes.{Refreshes, after_ticks, debt_of, is_forced}
use Rattle.ddr_arbiter.specs.declared.candidates.CandidateSet.{CandidateSet}
use Rattle.ddr_arbiter.specs.declared.choice.Choice.{Choice}
use Rattle.ddr_arbiter.specs.declared.choice.Choice.TheVariants as choice
use Rattle.ddr_arbiter.specs.Choice.{access_choice, can_column, candidates, candidates_of, choice_of, column_choice, column_place, first_choice, is_idly_forced, is_oldest_capped, is_overdue, is_rank_forced, is_rank_idle, is_something, of_kind, or_all, passes_at, ranks_of, refresh_choice, refresh_choice_at, row_choice, row_choice_at, served_kind}
use Rattle.ddr_arbiter.specs.Forced.{AreForced}
use Rattle.ddr_arbiter.specs.Quiet.{IsQuietUntil, later}
use Rattle.ddr_arbiter.specs.CandidateSet.{is_candidate, is_free_of_marks, is_of_kind, places_of}
use Rattle.ddr_arbiter.specs.Situation.{Situation}
use Rattle.ddr_arbiter.specs.Until.{AreSteadyUntil, IsAgeSteadyUntil, IsCandidate, IsRefreshStuckUntil, IsStuck, IsStuckUntil}
use Rattle.ddr_arbiter.proofs.LawLemmas.{passes_some}
use Rattle.ddr_arbiter.proofs.PlaceLemmas.{NoneAmong, choice_append, none_more}
use Rattle.ddr_arbiter.proofs.StuckLemmas.{stuck_column, stuck_row}

-- the ranks that have to be refreshed

-- each of them waits, where those wait that the marks name
pub forced_wait : (waiting : List Waiting) (refreshes : List Refreshes) (marks : List Bool) (b : Bus) (end first second : ℕ) → AreForced waiting refreshes marks → length refreshes ≤ 2 → end ≤ first → end ≤ second →
    (get_or marks 0 false ≡ true → IsRefreshStuckUntil first b 0) → (get_or marks 1 false ≡ true → IsRefreshStuckUntil second b 1) →
    (rank : ℕ) → is_rank_forced waiting refreshes rank ≡ true → IsRefreshStuckUntil end b rank
forced_wait waiting refreshes marks b end first second forced few sooner sooner_too told told_too zero is = λ count before.
    told (get_or_from_slice_get marks 0 (is_rank_forced waiting refreshes 0) false (forced 0 (omega arith)) ∙ is) count (omega (arith, before, sooner))
forced_wait waiting refreshes marks b end first second forced few sooner sooner_too told told_too (suc zero) is = λ count before.
    told_too (get_or_from_slice_get marks 1 (is_rank_forced waiting refreshes 1) false (forced 1 (omega arith)) ∙ is) count (omega (arith, before, sooner_too))
forced_wait waiting refreshes marks b end first second forced few sooner sooner_too told told_too (suc (suc rank)) is =
    let none : is_rank_forced waiting refreshes (suc (suc rank)) ≡ false =
    ap (λ o. option_map_or (is_forced (is_rank_idle waiting (suc (suc rank)))) o false) (slice_get_past refreshes (suc (suc rank)) (omega (arith, few))) in
    absurd (false≢true (sym none ∙ is))

-- they are the same in a cycle in which each owes as much
forced_alike : (waiting : List Waiting) (refreshes : List Refreshes) (count : ℕ) → All (λ r. debt_of (after_ticks count r) ≡ debt_of r) refreshes →
    (rank : ℕ) → is_rank_forced waiting (map (after_ticks count) refreshes) rank ≡ is_rank_forced waiting refreshes rank
forced_alike waiting refreshes count steady rank =
    ap (λ o. option_map_or (is_forced idle) o false) (slice_get-map (after_ticks count) refreshes rank) ∙ by_debt (slice_get refreshes rank) refl
  where
    idle : Bool
    idle = is_rank_idle waiting rank

    by_debt : (o : Option Refreshes) → slice_get refreshes rank ≡ o → option_map_or (is_forced idle) (option_map (after_ticks count) o) false ≡ option_map_or (is_forced idle) o false
    by_debt None e = refl
    by_debt (Some r) e =
        let r_is : get_or refreshes rank r ≡ r = get_or_from_slice_get refreshes rank r r e in
        let same : debt_of (after_ticks count r) ≡ debt_of r = rw r_is at (All-get_or (λ r. debt_of (after_ticks count r) ≡ debt_of r) refreshes rank r (slice_get_within refreshes rank r e) steady) in
        ap (λ (debt : ℕ). nat_lt r.postpone debt || (idle && nat_le 1 debt)) same

not_overdue : (waiting : List Waiting) (refreshes : List Refreshes) (rank : ℕ) → is_rank_forced waiting refreshes rank ≡ false → is_overdue refreshes rank ≡ false
not_overdue waiting refreshes rank free = by_debt (slice_get refreshes rank) free
  where
    by_debt : (o : Option Refreshes) → option_map_or (is_forced (is_rank_idle waiting rank)) o false ≡ false → option_map_or (is_forced false) o false ≡ false
    by_debt None none = refl
    by_debt (Some r) none =
        let parts = or_parts (nat_lt r.postpone (debt_of r)) (is_rank_idle waiting rank && nat_le 1 (debt_of r)) none in
        rw parts.0 refl

overdue_forced : (waiting : List Waiting) (refreshes : List Refreshes) (rank : ℕ) → is_overdue refreshes rank ≡ true → is_rank_forced waiting refreshes rank ≡ true
overdue_forced waiting refreshes rank over = elim (cases_Bool (is_rank_forced waiting refreshes rank)) [
  | inl forced ↦ forced
  | inr free ↦ absurd (false≢true (sym (not_overdue waiting refreshes rank free) ∙ over))
]

first_none : (f : ℕ → Choice) (test : ℕ → Bool) (xs : List ℕ) → ((x : ℕ) → test x ≡ true → f x ≡ choice.Nothing) → first_choice f (filter test xs) ≡ choice.Nothing
first_none f test [] none = refl
first_none f test (x ∷ xs) none = by_test (test x) refl (first_none f test xs none)
  where
    by_test : (w : Bool) → test x ≡ w → first_choice f (filter test xs) ≡ choice.Nothing → first_choice f (filter test (x ∷ xs)) ≡ choice.Nothing
    by_test true e rest = rw (e, none x e) rest
    by_test false e rest = rw e rest

-- where nothing can be chosen for any of them, no refresh is
no_refresh : (b : Bus) (waiting : List Waiting) (refreshes : List Refreshes) → ((rank : ℕ) → is_rank_forced waiting refreshes rank ≡ true → refresh_choice_at b rank ≡ choice.Nothing) →
    refresh_choice b waiting refreshes ≡ choice.Nothing
no_refresh b waiting refreshes none =
    let overdue = first_none (refresh_choice_at b) (is_overdue refreshes) (ranks_of refreshes) (λ rank over. none rank (overdue_forced waiting refreshes rank over)) in
    let idly = first_none (refresh_choice_at b) (is_idly_forced waiting refreshes) (ranks_of refreshes)
    (λ rank is. let parts = and_parts (is_rank_forced waiting refreshes rank) (not (is_overdue refreshes rank)) is in none rank parts.0) in
    choice_append (refresh_choice_at b) (filter (is_overdue refreshes) (ranks_of refreshes)) (filter (is_idly_forced waiting refreshes) (ranks_of refreshes))
    ∙ ap (λ first. cond (is_something first) first (first_choice (refresh_choice_at b) (filter (is_idly_forced waiting refreshes) (ranks_of refreshes)))) overdue
    ∙ idly

-- the candidates, by which ranks are forced and whether the oldest has reached the cap
abbrev places_by : Bool → Bool → List Waiting → (ℕ → Bool) → List ℕ
places_by capped drain waiting forced =
    let of_free_rank : ℕ → Bool = λ place. passes_at (λ w. not (forced w.request.place.rank)) waiting place in
    let free : List ℕ = filter (λ place. not (is_blocked waiting place) && of_free_rank place) (range_with_len 0 (length waiting)) in
    cond capped (filter of_free_rank (0 ∷ [])) (or_all (of_kind (served_kind drain) waiting free) free)

candidates_alike : (now then cap : ℕ) (drain : Bool) (waiting : List Waiting) (refreshes others : List Refreshes) → is_oldest_capped then cap waiting ≡ is_oldest_capped now cap waiting →
    ((rank : ℕ) → is_rank_forced waiting others rank ≡ is_rank_forced waiting refreshes rank) → candidates then cap drain waiting others ≡ candidates now cap drain waiting refreshes
candidates_alike now then cap drain waiting refreshes others age same =
    let forced : is_rank_forced waiting others ≡ is_rank_forced waiting refreshes = λ i rank. same rank i in
    ap (λ (forced : ℕ → Bool). places_by (is_oldest_capped then cap waiting) drain waiting forced) forced
    ∙ ap (λ (capped : Bool). places_by capped drain waiting (is_rank_forced waiting refreshes)) age

-- nothing for any candidate

none_among : (kept test : ℕ → Bool) (n : ℕ) → ((x : ℕ) → x < n → kept x ≡ true → test x ≡ false) → NoneAmong kept test n
none_among kept test zero none = refl
none_among kept test (suc n) none =
    let next : suc n ≡ n + 1 = omega arith in
    ap (λ k. find test (filter kept (range_with_len 0 k))) next ∙ none_more kept test n (none_among kept test n (λ x within. none x (omega (arith, within)))) (by_kept (kept n) refl)
  where
    by_kept : (w : Bool) → kept n ≡ w → (kept n && test n) ≡ false
    by_kept true is = rw is (none n (omega arith) is)
    by_kept false is = rw is refl

-- a place that passes is that of a request
candidate_at : (c : CandidateSet) (waiting : List Waiting) (place : ℕ) → place < c.count → is_candidate c waiting place ≡ true → (w : Waiting) × IsCandidate c waiting place w
candidate_at c waiting place within passes =
    let parts = and_parts (is_of_kind c.kind waiting place) (is_free_of_marks c.forced waiting place) passes in
    let found = passes_some (λ w. is_same_kind c.kind w.request.echo.kind) (slice_get waiting place) parts.0 in
    (found.0, record { within = within; passes = passes; here = found.1 })

no_column : (s : Situation) (c : CandidateSet) → ((place : ℕ) (w : Waiting) → IsCandidate c s.waiting place w → IsStuck s.bus c s.waiting s.room w.request.place) →
    column_place s.bus s.waiting (places_of c s.waiting) s.room ≡ None
no_column s c stuck = by_room s.room refl
  where
    by_room : (room : Bool) → s.room ≡ room → cond room (find (can_column s.bus s.waiting) (places_of c s.waiting)) None ≡ None
    by_room false is = refl
    by_room true is = none_among (is_candidate c s.waiting) (can_column s.bus s.waiting) c.count (λ place within passes.
        let at = candidate_at c s.waiting place within passes in
        stuck_column s.bus c s.waiting s.room place at.0 at.1 (stuck place at.0 at.1) is)

no_row : (s : Situation) (c : CandidateSet) → ((place : ℕ) (w : Waiting) → IsCandidate c s.waiting place w → IsStuck s.bus c s.waiting s.room w.request.place) →
    row_choice s.bus s.waiting (places_of c s.waiting) ≡ choice.Nothing
no_row s c stuck =
    let f : ℕ → Choice = row_choice_at s.bus s.waiting (places_of c s.waiting) in
    ap (λ o. option_map_or f o choice.Nothing) (none_among (is_candidate c s.waiting) (λ place. is_something (f place)) c.count (λ place within passes.
    let at = candidate_at c s.waiting place within passes in
    ap is_something (stuck_row s.bus c s.waiting s.room place at.0 at.1 (stuck place at.0 at.1))))

no_choice : (s : Situation) (c : CandidateSet) → ((rank : ℕ) → is_rank_forced s.waiting s.refreshes rank ≡ true → refresh_choice_at s.bus rank ≡ choice.Nothing) → candidates_of s ≡ places_of c s.waiting →
    ((place : ℕ) (w : Waiting) → IsCandidate c s.waiting place w → IsStuck s.bus c s.waiting s.room w.request.place) → choice_of s ≡ choice.Nothing
no_choice s c none served stuck =
    rw (no_refresh s.bus s.waiting s.refreshes none) (ap (access_choice s) served
    ∙ ap (λ o. option_map_or (column_choice s.policy.closed s.waiting) o (row_choice s.bus s.waiting (places_of c s.waiting))) (no_column s c stuck) ∙ no_row s c stuck)

pub quiet_where : (s : Situation) (c : CandidateSet) (end : ℕ) → ((rank : ℕ) → is_rank_forced s.waiting s.refreshes rank ≡ true → IsRefreshStuckUntil end s.bus rank) → AreSteadyUntil end s.bus.now s.refreshes →
    IsAgeSteadyUntil end s.bus.now s.policy.cap s.waiting → candidates_of s ≡ places_of c s.waiting →
    ((place : ℕ) (w : Waiting) → IsCandidate c s.waiting place w → IsStuckUntil end s.bus c s.waiting s.room w.request.place) → IsQuietUntil end s
quiet_where s c end wait steady age served stuck = λ count before.
    let alike = forced_alike s.waiting s.refreshes count (steady count before) in
    no_choice (later count s) c (λ rank is. wait rank (sym (alike rank) ∙ is) count before)
    (candidates_alike s.bus.now (s.bus.now + count) s.policy.cap s.drain s.waiting s.refreshes (map (after_ticks count) s.refreshes) (age count before) alike ∙ served)
    (λ place w candidate. stuck place w candidate count before)

-- with nothing pending there is no candidate

no_candidates : (now cap : ℕ) (drain : Bool) (waiting : List Waiting) (refreshes : List Refreshes) → length waiting ≡ 0 → candidates now cap drain waiting refreshes ≡ []
no_candidates now cap drain [] refreshes none = refl
no_candidates now cap drain (w ∷ ws) refreshes none = absurd (omega (arith, none))

no_age : (then now cap : ℕ) (waiting : List Waiting) → length waiting ≡ 0 → is_oldest_capped then cap waiting ≡ is_oldest_capped now cap waiting
no_age then now cap [] none = refl
no_age then now cap (w ∷ ws) none = absurd (omega (arith, none))

pub quiet_empty : (s : Situation) (end : ℕ) → ((rank : ℕ) → is_rank_forced s.waiting s.refreshes rank ≡ true → IsRefreshStuckUntil end s.bus rank) → AreSteadyUntil end s.bus.now s.refreshes → length s.waiting ≡ 0 → IsQuietUntil end s
quiet_empty s end wait steady none =
    quiet_where s (record { kind = Read; count = 0; forced = [] }) end wait steady (λ count before. no_age (s.bus.now + count) s.bus.now s.policy.cap s.waiting none)
    (no_candidates s.bus.now s.policy.cap s.drain s.waiting s.refreshes none) (λ place w candidate. absurd (omega (arith, candidate.within)))
