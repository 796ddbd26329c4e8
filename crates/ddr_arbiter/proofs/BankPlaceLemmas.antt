-- The places of a bank's requests.
use Rattle.std.proofs.Common.{◌≡◌, ℕ, zero, suc, ◌+◌, ◌<◌, ◌≤◌, Bool, true, false, List, [], ◌∷◌, map, length, Some, None, refl, ap, ◌∙◌, arith}
use Rattle.std.specs.List.{enumerate_from, filter, slice_get}
use Rattle.std.proofs.lemmas.Option.{slice_get_within}
use Rattle.ddr_hazards.specs.declared.waiting.Waiting.{Waiting}
use Rattle.ddr_hazards.specs.Banks.{in_bank, is_in_bank}

-- the places of a bank's requests in a list whose first place is n
abbrev places_from : ℕ → ℕ → ℕ → ℕ → List Waiting → List ℕ
places_from rank group bank n waiting = map (λ at. at.0) (filter (λ at. is_in_bank rank group bank at.1) (enumerate_from n waiting))

-- a place of the list is that of a request of the bank
abbrev IsPlace : ℕ → ℕ → ℕ → ℕ → List Waiting → ℕ → Type 0
IsPlace rank group bank n waiting place = (i : ℕ) × (w : Waiting) × (place ≡ n + i) × (slice_get waiting i ≡ Some w) × (is_in_bank rank group bank w ≡ true)

further : (rank group bank n : ℕ) (w : Waiting) (ws : List Waiting) (place : ℕ) → IsPlace rank group bank (n + 1) ws place → IsPlace rank group bank n (w ∷ ws) place
further rank group bank n w ws place at = (suc at.0, at.1, omega (arith, at.2), at.3, at.4)

place_from : (rank group bank n k place : ℕ) (ws : List Waiting) → slice_get (places_from rank group bank n ws) k ≡ Some place → IsPlace rank group bank n ws place
place_from rank group bank n k place [] there = cc
place_from rank group bank n k place (w ∷ ws) there = by_bank (is_in_bank rank group bank w) refl k there (λ j found. place_from rank group bank (n + 1) j place ws found)
  where
    by_bank : (t : Bool) → is_in_bank rank group bank w ≡ t → (j : ℕ) → slice_get (places_from rank group bank n (w ∷ ws)) j ≡ Some place →
        ((i : ℕ) → slice_get (places_from rank group bank (n + 1) ws) i ≡ Some place → IsPlace rank group bank (n + 1) ws place) → IsPlace rank group bank n (w ∷ ws) place
    by_bank true e zero found rest = let same : Some n ≡ Some place = rw e at found in let it : n ≡ place = cc in (zero, w, omega (arith, it), refl, e)
    by_bank true e (suc j) found rest = let later : slice_get (places_from rank group bank (n + 1) ws) j ≡ Some place = rw e at found in further rank group bank n w ws place (rest j later)
    by_bank false e j found rest = let later : slice_get (places_from rank group bank (n + 1) ws) j ≡ Some place = rw e at found in further rank group bank n w ws place (rest j later)

-- each request of the bank has its place in the list
has_place : (rank group bank n i : ℕ) (w : Waiting) (ws : List Waiting) → slice_get ws i ≡ Some w → is_in_bank rank group bank w ≡ true →
    (k : ℕ) × (slice_get (places_from rank group bank n ws) k ≡ Some (n + i))
has_place rank group bank n i w [] there of_bank = cc
has_place rank group bank n zero w (v ∷ ws) there of_bank =
    let here : is_in_bank rank group bank v ≡ true = (let same : v ≡ w = cc in rw same of_bank) in
    let none : n ≡ n + zero = omega arith in
    (zero, rw here (ap Some none))
has_place rank group bank n (suc i) w (v ∷ ws) there of_bank = by_bank (is_in_bank rank group bank v) refl (has_place rank group bank (n + 1) i w ws there of_bank)
  where
    more : n + 1 + i ≡ n + suc i
    more = omega arith

    by_bank : (t : Bool) → is_in_bank rank group bank v ≡ t → ((k : ℕ) × (slice_get (places_from rank group bank (n + 1) ws) k ≡ Some (n + 1 + i))) →
        (k : ℕ) × (slice_get (places_from rank group bank n (v ∷ ws)) k ≡ Some (n + suc i))
    by_bank true e at = (suc at.0, rw e (at.1 ∙ ap Some more))
    by_bank false e at = (at.0, rw e (at.1 ∙ ap Some more))

-- there are no more of them than requests
few_places : (rank group bank n : ℕ) (ws : List Waiting) → length (places_from rank group bank n ws) ≤ length ws
few_places rank group bank n [] = omega arith
few_places rank group bank n (w ∷ ws) = by_bank (is_in_bank rank group bank w) refl (few_places rank group bank (n + 1) ws)
  where
    by_bank : (t : Bool) → is_in_bank rank group bank w ≡ t → length (places_from rank group bank (n + 1) ws) ≤ length ws → length (places_from rank group bank n (w ∷ ws)) ≤ suc (length ws)
    by_bank true e rest = rw e (omega (arith, rest))
    by_bank false e rest = rw e (omega (arith, rest))

-- a place that the list of a bank gives
pub place_of_bank : (rank group bank k place : ℕ) (waiting : List Waiting) → in_bank rank group bank k waiting ≡ Some place →
    (w : Waiting) × (slice_get waiting place ≡ Some w) × (is_in_bank rank group bank w ≡ true)
place_of_bank rank group bank k place waiting there =
    let at = place_from rank group bank 0 k place waiting there in
    let same : place ≡ at.0 = omega (arith, at.2) in
    (at.1, ap (slice_get waiting) same ∙ at.3, at.4)

pub listed_place : (rank group bank place : ℕ) (w : Waiting) (waiting : List Waiting) → slice_get waiting place ≡ Some w → is_in_bank rank group bank w ≡ true →
    (k : ℕ) × (in_bank rank group bank k waiting ≡ Some place)
listed_place rank group bank place w waiting there of_bank =
    let at = has_place rank group bank 0 place w waiting there of_bank in
    let same : 0 + place ≡ place = omega arith in
    (at.0, at.1 ∙ ap Some same)

-- a list of a bank that has come to its end has no more
pub ended : (rank group bank k : ℕ) (waiting : List Waiting) → in_bank rank group bank k waiting ≡ None → (j place : ℕ) → in_bank rank group bank j waiting ≡ Some place → j < k
ended rank group bank k waiting none j place there =
    let past = slice_get_none (places_from rank group bank 0 waiting) k none in
    let within = slice_get_within (places_from rank group bank 0 waiting) j place there in
    omega (arith, past, within)
  where
    slice_get_none : (xs : List ℕ) (k : ℕ) → slice_get xs k ≡ None → length xs ≤ k
    slice_get_none [] k e = omega arith
    slice_get_none (x ∷ xs) zero e = absurd (cc)
    slice_get_none (x ∷ xs) (suc k) e = omega (arith, slice_get_none xs k e)

pub all_listed : (rank group bank : ℕ) (waiting : List Waiting) (j place : ℕ) → in_bank rank group bank j waiting ≡ Some place → j < length waiting
all_listed rank group bank waiting j place there =
    let within = slice_get_within (places_from rank group bank 0 waiting) j place there in
    let few = few_places rank group bank 0 waiting in
    omega (arith, within, few)
