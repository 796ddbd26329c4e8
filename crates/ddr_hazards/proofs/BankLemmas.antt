-- The slots of a bank stand for the places of its requests.
use Rattle.std.proofs.Common.{◌≡◌, ℕ, zero, suc, ◌+◌, ◌*◌, ◌<◌, Bool, true, false, ◌&&◌, cond, eqb, List, [], ◌∷◌, map, Some, None, refl, sym, ap, ◌∙◌, inl, inr, arith}
use Rattle.std.specs.List.{slice_get, filter, enumerate_from}
use Rattle.std.specs.Option.{option_map_or}
use Rattle.std.proofs.lemmas.Bool.{cases_Bool, cond-true, cond-false}
use Rattle.ddr_timing.specs.declared.units.TheConstants.{GROUP_BANKS, MOST_GROUPS}
use Rattle.ddr_hazards.specs.declared.waiting.Waiting.{Waiting}
use Rattle.ddr_hazards.specs.Banks.{bank_number, is_in_bank, number}
use Rattle.ddr_hazards.specs.Slots.{is_bank}
use Rattle.ddr_hazards.proofs.SlotLemmas.{Holds}

-- the places of a bank's requests in a list whose first place is n
abbrev pub places_from : ℕ → ℕ → ℕ → ℕ → List Waiting → List ℕ
places_from rank group bank n ws = map (λ at. at.0) (filter (λ at. is_in_bank rank group bank at.1) (enumerate_from n ws))

places_from-in : (rank group bank n : ℕ) (w : Waiting) (ws : List Waiting) → is_in_bank rank group bank w ≡ true →
    places_from rank group bank n (w ∷ ws) ≡ n ∷ places_from rank group bank (n + 1) ws
places_from-in rank group bank n w ws is = ap (map (λ at. at.0)) (cond-true (is_in_bank rank group bank w) _ _ is)

places_from-out : (rank group bank n : ℕ) (w : Waiting) (ws : List Waiting) → is_in_bank rank group bank w ≡ false →
    places_from rank group bank n (w ∷ ws) ≡ places_from rank group bank (n + 1) ws
places_from-out rank group bank n w ws is = ap (map (λ at. at.0)) (cond-false (is_in_bank rank group bank w) _ _ is)

-- a bank's number is right for each of the requests
abbrev pub Numbers : ℕ → ℕ → ℕ → ℕ → List Waiting → Type 0
Numbers rank group bank nth ws = (i : ℕ) (w : Waiting) → slice_get ws i ≡ Some w → eqb (bank_number w.request.place) nth ≡ is_in_bank rank group bank w

none_next : (s n k : ℕ) (xs ys : List ℕ) → ((j : ℕ) → slice_get xs j ≡ None → slice_get ys j ≡ None) → slice_get (s ∷ xs) k ≡ None → slice_get (n ∷ ys) k ≡ None
none_next s n zero xs ys later none = absurd (cc)
none_next s n (suc k) xs ys later none = later k none

-- where a bank has fewer slots, it has fewer requests
pub none_at : (f : Holds) (rank group bank nth n k : ℕ) (P : List ℕ) (ws : List Waiting) → map f P ≡ map Some ws → Numbers rank group bank nth ws →
    slice_get (filter (is_bank f nth) P) k ≡ None → slice_get (places_from rank group bank n ws) k ≡ None
none_at f rank group bank nth n k [] [] holds right none = refl
none_at f rank group bank nth n k [] (w ∷ ws) holds right none = absurd (cc)
none_at f rank group bank nth n k (s ∷ P) [] holds right none = absurd (cc)
none_at f rank group bank nth n k (s ∷ P) (w ∷ ws) holds right none =
    let first : f s ≡ Some w = cc in
    let rest : map f P ≡ map Some ws = cc in
    let same : is_bank f nth s ≡ is_in_bank rank group bank w = ap (λ o. option_map_or (λ v. eqb (bank_number v.request.place) nth) o false) first ∙ right zero w refl in
    let later : (j : ℕ) → slice_get (filter (is_bank f nth) P) j ≡ None → slice_get (places_from rank group bank (n + 1) ws) j ≡ None =
    λ j e. none_at f rank group bank nth (n + 1) j P ws rest (λ i v there. right (suc i) v there) e in
    elim (cases_Bool (is_in_bank rank group bank w)) [
      | inl t ↦ ap (λ ps. slice_get ps k) (places_from-in rank group bank n w ws t)
          ∙ none_next s n k (filter (is_bank f nth) P) (places_from rank group bank (n + 1) ws) later
          (ap (λ ps. slice_get ps k) (sym (cond-true (is_bank f nth s) (s ∷ filter (is_bank f nth) P) (filter (is_bank f nth) P) (same ∙ t))) ∙ none)
      | inr e ↦ ap (λ ps. slice_get ps k) (places_from-out rank group bank n w ws e)
          ∙ later k (ap (λ ps. slice_get ps k) (sym (cond-false (is_bank f nth s) (s ∷ filter (is_bank f nth) P) (filter (is_bank f nth) P) (same ∙ e))) ∙ none)
    ]

-- the k-th slot of a bank stands at the place of its k-th request
abbrev pub AtPlace : List ℕ → List ℕ → ℕ → ℕ → ℕ → Type 0
AtPlace P places n k s = (i : ℕ) × (slice_get P i ≡ Some s) × (slice_get places k ≡ Some (n + i))

some_next : (x s n k : ℕ) (P xs places : List ℕ) → ((j : ℕ) → slice_get xs j ≡ Some s → AtPlace P places (n + 1) j s) →
    slice_get (x ∷ xs) k ≡ Some s → AtPlace (x ∷ P) (n ∷ places) n k s
some_next x s n zero P xs places later there = let e : n ≡ n + zero = omega arith in (zero, there, ap Some e)
some_next x s n (suc k) P xs places later there =
    let l = later k there in
    let e : n + 1 + l.0 ≡ n + suc l.0 = omega arith in
    (suc l.0, l.1, l.2 ∙ ap Some e)

pub some_at : (f : Holds) (rank group bank nth n k s : ℕ) (P : List ℕ) (ws : List Waiting) → map f P ≡ map Some ws → Numbers rank group bank nth ws →
    slice_get (filter (is_bank f nth) P) k ≡ Some s → AtPlace P (places_from rank group bank n ws) n k s
some_at f rank group bank nth n k s [] ws holds right there = absurd (cc)
some_at f rank group bank nth n k s (x ∷ P) [] holds right there = absurd (cc)
some_at f rank group bank nth n k s (x ∷ P) (w ∷ ws) holds right there =
    let first : f x ≡ Some w = cc in
    let rest : map f P ≡ map Some ws = cc in
    let same : is_bank f nth x ≡ is_in_bank rank group bank w = ap (λ o. option_map_or (λ v. eqb (bank_number v.request.place) nth) o false) first ∙ right zero w refl in
    let later : (j : ℕ) → slice_get (filter (is_bank f nth) P) j ≡ Some s → AtPlace P (places_from rank group bank (n + 1) ws) (n + 1) j s =
    λ j e. some_at f rank group bank nth (n + 1) j s P ws rest (λ i v here. right (suc i) v here) e in
    elim (cases_Bool (is_in_bank rank group bank w)) [
      | inl t ↦
          let l = some_next x s n k P (filter (is_bank f nth) P) (places_from rank group bank (n + 1) ws) later
          (ap (λ ps. slice_get ps k) (sym (cond-true (is_bank f nth x) (x ∷ filter (is_bank f nth) P) (filter (is_bank f nth) P) (same ∙ t))) ∙ there) in
          (l.0, l.1, ap (λ ps. slice_get ps k) (places_from-in rank group bank n w ws t) ∙ l.2)
      | inr e ↦
          let l = later k (ap (λ ps. slice_get ps k) (sym (cond-false (is_bank f nth x) (x ∷ filter (is_bank f nth) P) (filter (is_bank f nth) P) (same ∙ e))) ∙ there) in
          let more : n + 1 + l.0 ≡ n + suc l.0 = omega arith in
          (suc l.0, l.1, ap (λ ps. slice_get ps k) (places_from-out rank group bank n w ws e) ∙ l.2 ∙ ap Some more)
    ]

same_pair : (g b group bank : ℕ) → b < 4 → bank < 4 → eqb (g * 4 + b) (group * 4 + bank) ≡ (eqb g group && eqb b bank)
same_pair g b group bank below low = grind arith

same_all : (x y z : Bool) → ((x && y) && z) ≡ (x && (y && z))
same_all true y z = refl
same_all false y z = refl

-- the number of a bank tells which it is
pub number_is : (r g b rank group bank : ℕ) → g < MOST_GROUPS → group < MOST_GROUPS → b < GROUP_BANKS → bank < GROUP_BANKS →
    eqb (number r g b) (number rank group bank) ≡ (eqb r rank && (eqb g group && eqb b bank))
number_is r g b rank group bank g_in group_in b_in bank_in =
    same_pair (r * 4 + g) b (rank * 4 + group) bank b_in bank_in ∙ ap (λ x. x && eqb b bank) (same_pair r g rank group g_in group_in)
    ∙ same_all (eqb r rank) (eqb g group) (eqb b bank)
