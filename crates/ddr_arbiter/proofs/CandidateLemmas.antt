-- The candidates, by a kind and a number of places.
use Rattle.std.proofs.Common.{◌≡◌, ℕ, Bool, true, false, ◌&&◌, not, List, [], ◌∷◌, length, get_or, Option, Some, None, refl, sym, ap, ◌∙◌, All}
use Rattle.std.specs.List.{filter, list_any, range_with_len, slice_get}
use Rattle.std.specs.Option.{option_map_or}
use Rattle.std.proofs.lemmas.Bool.{false≢true, true≢false}
use Rattle.std.proofs.lemmas.Option.{get_or_from_slice_get}
use Rattle.ddr_address_map.specs.declared.request.Kind.{Kind}
use Rattle.ddr_address_map.specs.declared.request.Kind.TheVariants.{Read, Write}
use Rattle.ddr_hazards.specs.declared.waiting.Waiting.{Waiting}
use Rattle.ddr_hazards.specs.Hazards.{is_blocked}
use Rattle.ddr_hazards.specs.PendingList.{IsInRank, is_same_kind}
use Rattle.ddr_refresh.specs.Refreshes.{Refreshes}
use Rattle.ddr_arbiter.specs.Choice.{candidates, free_places, has_age, is_free, is_of_free_rank, is_oldest_capped, is_rank_forced, of_kind, or_all, served_kind}
use Rattle.ddr_arbiter.specs.Forced.{AreForced}
use Rattle.ddr_arbiter.specs.CandidateSet.{capped_kind, is_candidate, is_free_of_marks, is_of_kind, is_of_unmarked_rank, other_kind, places_of}
use Rattle.ddr_arbiter.proofs.KnownLemmas.{in_rank_at}

-- filters

filter_alike : (p q : ℕ → Bool) (xs : List ℕ) → ((x : ℕ) → p x ≡ q x) → filter p xs ≡ filter q xs
filter_alike p q [] same = refl
filter_alike p q (x ∷ xs) same = rw (same x, filter_alike p q xs same) refl

filter_both : (p q : ℕ → Bool) (xs : List ℕ) → filter p (filter q xs) ≡ filter (λ x. p x && q x) xs
filter_both p q [] = refl
filter_both p q (x ∷ xs) = by_tests (q x) (p x) refl refl (filter_both p q xs)
  where
    by_tests : (v w : Bool) → q x ≡ v → p x ≡ w → filter p (filter q xs) ≡ filter (λ y. p y && q y) xs → filter p (filter q (x ∷ xs)) ≡ filter (λ y. p y && q y) (x ∷ xs)
    by_tests true true e f rest = rw (e, f, rest) refl
    by_tests true false e f rest = rw (e, f, rest) refl
    by_tests false true e f rest = rw (e, f, rest) refl
    by_tests false false e f rest = rw (e, f, rest) refl

-- where none passes one test, and of the others two more pass alike
filter_where : (none p q : ℕ → Bool) (xs : List ℕ) → list_any none xs ≡ false → ((x : ℕ) → none x ≡ false → p x ≡ q x) → filter p xs ≡ filter q xs
filter_where none p q [] fails same = refl
filter_where none p q (x ∷ xs) fails same = by_test (none x) refl (λ rest. filter_where none p q xs rest same)
  where
    by_test : (w : Bool) → none x ≡ w → (list_any none xs ≡ false → filter p xs ≡ filter q xs) → filter p (x ∷ xs) ≡ filter q (x ∷ xs)
    by_test true e next = let some : true ≡ false = rw e at fails in absurd (true≢false some)
    by_test false e next =
        let rest : list_any none xs ≡ false = rw e at fails in
        rw (same x e, next rest) refl

filter_none : (p : ℕ → Bool) (xs : List ℕ) → list_any p xs ≡ false → filter p xs ≡ []
filter_none p [] fails = refl
filter_none p (x ∷ xs) fails = by_test (p x) refl (filter_none p xs)
  where
    by_test : (w : Bool) → p x ≡ w → (list_any p xs ≡ false → filter p xs ≡ []) → filter p (x ∷ xs) ≡ []
    by_test true e next = let some : true ≡ false = rw e at fails in absurd (true≢false some)
    by_test false e next =
        let rest : list_any p xs ≡ false = rw e at fails in
        rw (e, next rest) refl

or_all_some : (p : ℕ → Bool) (xs all : List ℕ) → list_any p xs ≡ true → or_all (filter p xs) all ≡ filter p xs
or_all_some p [] all passes = absurd (false≢true passes)
or_all_some p (x ∷ xs) all passes = by_test (p x) refl (or_all_some p xs all)
  where
    by_test : (w : Bool) → p x ≡ w → (list_any p xs ≡ true → or_all (filter p xs) all ≡ filter p xs) → or_all (filter p (x ∷ xs)) all ≡ filter p (x ∷ xs)
    by_test true e next = rw e refl
    by_test false e next =
        let rest : list_any p xs ≡ true = rw e at passes in
        rw e (next rest)

-- the marks of the forced ranks

unmarked_free : (waiting : List Waiting) (refreshes : List Refreshes) (marks : List Bool) → All (λ w. IsInRank w.request.place) waiting → AreForced waiting refreshes marks →
    (place : ℕ) → is_of_free_rank waiting refreshes place ≡ is_of_unmarked_rank marks waiting place
unmarked_free waiting refreshes marks inside forced place = by_request (slice_get waiting place) refl
  where
    by_request : (o : Option Waiting) → slice_get waiting place ≡ o → option_map_or (λ (w : Waiting). not (is_rank_forced waiting refreshes w.request.place.rank)) o false
        ≡ option_map_or (λ (w : Waiting). not (get_or marks w.request.place.rank false)) o false
    by_request None e = refl
    by_request (Some w) e =
        let in_rank = in_rank_at waiting place w inside e in
        ap not (sym (get_or_from_slice_get marks w.request.place.rank (is_rank_forced waiting refreshes w.request.place.rank) false (forced w.request.place.rank in_rank.2)))

unmarked_places : (waiting : List Waiting) (refreshes : List Refreshes) (marks : List Bool) → All (λ w. IsInRank w.request.place) waiting → AreForced waiting refreshes marks →
    (place : ℕ) → is_free waiting refreshes place ≡ is_free_of_marks marks waiting place
unmarked_places waiting refreshes marks inside forced place = ap (λ t. not (is_blocked waiting place) && t) (unmarked_free waiting refreshes marks inside forced place)

-- where the oldest is not at the cap

no_cap : (now cap : ℕ) (waiting : List Waiting) → capped_kind now cap waiting ≡ None → is_oldest_capped now cap waiting ≡ false
no_cap now cap [] none = refl
no_cap now cap (w ∷ ws) none = by_age (has_age now cap w) refl
  where
    by_age : (t : Bool) → has_age now cap w ≡ t → has_age now cap w ≡ false
    by_age false e = e
    by_age true e = let some : Some w.request.echo.kind ≡ None = rw e at none in cc

kind_places : (kind : Kind) (n : ℕ) (waiting : List Waiting) (refreshes : List Refreshes) (marks : List Bool) → All (λ w. IsInRank w.request.place) waiting → AreForced waiting refreshes marks →
    of_kind kind waiting (filter (is_free waiting refreshes) (range_with_len 0 n)) ≡ places_of (record { kind = kind; count = n; forced = marks }) waiting
kind_places kind n waiting refreshes marks inside forced =
    filter_both (is_of_kind kind waiting) (is_free waiting refreshes) (range_with_len 0 n)
    ∙ filter_alike (λ x. is_of_kind kind waiting x && is_free waiting refreshes x) (is_candidate (record { kind = kind; count = n; forced = marks }) waiting) (range_with_len 0 n)
    (λ place. ap (λ t. is_of_kind kind waiting place && t) (unmarked_places waiting refreshes marks inside forced place))

-- some of the kind that is served first are candidates
pub served_places : (now cap : ℕ) (drain : Bool) (waiting : List Waiting) (refreshes : List Refreshes) (marks : List Bool) (kind : Kind) (n : ℕ) →
    All (λ w. IsInRank w.request.place) waiting → AreForced waiting refreshes marks → capped_kind now cap waiting ≡ None → kind ≡ served_kind drain → n ≡ length waiting →
    list_any (is_candidate (record { kind = kind; count = n; forced = marks }) waiting) (range_with_len 0 n) ≡ true →
    candidates now cap drain waiting refreshes ≡ places_of (record { kind = kind; count = n; forced = marks }) waiting
served_places now cap drain waiting refreshes marks kind n inside forced young is_kind is_n some =
    rw (no_cap now cap waiting young)
    (ap (λ ps. or_all ps (free_places waiting refreshes))
    (ap (λ k. of_kind k waiting (free_places waiting refreshes)) (sym is_kind)
    ∙ ap (λ m. of_kind kind waiting (filter (is_free waiting refreshes) (range_with_len 0 m))) (sym is_n)
    ∙ kind_places kind n waiting refreshes marks inside forced)
    ∙ or_all_some (is_candidate (record { kind = kind; count = n; forced = marks }) waiting) (range_with_len 0 n) (free_places waiting refreshes) some)

-- none of the one kind that is free, so each that is free is of the other
other_free : (kind : Kind) (waiting : List Waiting) (marks : List Bool) (place : ℕ) → (is_of_kind kind waiting place && is_free_of_marks marks waiting place) ≡ false →
    is_free_of_marks marks waiting place ≡ (is_of_kind (other_kind kind) waiting place && is_free_of_marks marks waiting place)
other_free kind waiting marks place none = by_request (slice_get waiting place) refl
  where
    swap_kind : (k l : Kind) (t : Bool) → (is_same_kind k l && t) ≡ false → t ≡ (is_same_kind (other_kind k) l && t)
    swap_kind Read Read t none_is = none_is
    swap_kind Read Write t none_is = refl
    swap_kind Write Read t none_is = refl
    swap_kind Write Write t none_is = none_is

    last_false : (t : Bool) → (t && false) ≡ false
    last_false true = refl
    last_false false = refl

    by_request : (o : Option Waiting) → slice_get waiting place ≡ o →
        is_free_of_marks marks waiting place ≡ (is_of_kind (other_kind kind) waiting place && is_free_of_marks marks waiting place)
    by_request None e =
        let out : is_free_of_marks marks waiting place ≡ false =
        ap (λ o. not (is_blocked waiting place) && option_map_or (λ (w : Waiting). not (get_or marks w.request.place.rank false)) o false) e ∙ last_false (not (is_blocked waiting place)) in
        rw out (sym (last_false (is_of_kind (other_kind kind) waiting place)))
    by_request (Some w) e =
        let here : (is_same_kind kind w.request.echo.kind && is_free_of_marks marks waiting place) ≡ false =
        sym (ap (λ o. option_map_or (λ (v : Waiting). is_same_kind kind v.request.echo.kind) o false && is_free_of_marks marks waiting place) e) ∙ none in
        swap_kind kind w.request.echo.kind (is_free_of_marks marks waiting place) here
        ∙ sym (ap (λ o. option_map_or (λ (v : Waiting). is_same_kind (other_kind kind) v.request.echo.kind) o false && is_free_of_marks marks waiting place) e)

pub other_places : (now cap : ℕ) (drain : Bool) (waiting : List Waiting) (refreshes : List Refreshes) (marks : List Bool) (kind other : Kind) (n : ℕ) →
    All (λ w. IsInRank w.request.place) waiting → AreForced waiting refreshes marks → capped_kind now cap waiting ≡ None → kind ≡ served_kind drain → other ≡ other_kind kind → n ≡ length waiting →
    list_any (is_candidate (record { kind = kind; count = n; forced = marks }) waiting) (range_with_len 0 n) ≡ false →
    candidates now cap drain waiting refreshes ≡ places_of (record { kind = other; count = n; forced = marks }) waiting
other_places now cap drain waiting refreshes marks kind other n inside forced young is_kind is_other is_n none =
    let served = is_candidate (record { kind = kind; count = n; forced = marks }) waiting in
    let rest = is_candidate (record { kind = other_kind kind; count = n; forced = marks }) waiting in
    rw (no_cap now cap waiting young)
    (ap (λ ps. or_all ps (free_places waiting refreshes))
    (ap (λ k. of_kind k waiting (free_places waiting refreshes)) (sym is_kind)
    ∙ ap (λ m. of_kind kind waiting (filter (is_free waiting refreshes) (range_with_len 0 m))) (sym is_n)
    ∙ kind_places kind n waiting refreshes marks inside forced ∙ filter_none served (range_with_len 0 n) none)
    ∙ ap (λ m. filter (is_free waiting refreshes) (range_with_len 0 m)) (sym is_n)
    ∙ filter_where served (is_free waiting refreshes) rest (range_with_len 0 n) none
    (λ place none_is. unmarked_places waiting refreshes marks inside forced place ∙ other_free kind waiting marks place none_is)
    ∙ ap (λ k. places_of (record { kind = k; count = n; forced = marks }) waiting) (sym is_other))
