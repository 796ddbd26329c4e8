-- How often a number is held in the core: sums over channels, queues and outstanding numbers.
use Rattle.std.proofs.Common.{◌≡◌, ◌≢◌, ℕ, zero, suc, ◌+◌, ◌<◌, ◌≤◌, Bool, true, false, cond, eqb, List, [], ◌∷◌, ◌++◌, Option, Some, None, is_none, map, length, refl, sym, ap, ap₂, ◌∙◌, arith}
use Rattle.std.specs.List.{sum_by, range_with_len, slice_get}
use Rattle.std.proofs.lemmas.Bool.{ne_eqb, eqb-true, eq-eqb}
use Rattle.std.proofs.lemmas.List.Sums.{sum_by-cons}
use Rattle.ddr_address_map.specs.Requests.{Request}
use Rattle.ddr_reorder.specs.declared.reply.Service.{Service}
use Rattle.ddr_reorder.specs.State.{Outstanding, filled}
use Rattle.ddr_world.specs.declared.item.Item.{Item}
use Rattle.ddr_world.specs.declared.item.Item.TheVariants as item
use Rattle.ddr_world.proofs.CoreKeeps.{requests_in}

-- the requests of a longer queue
pub requests_in-append : (xs ys : List Item) → requests_in (xs ++ ys) ≡ requests_in xs ++ requests_in ys
requests_in-append [] ys = refl
requests_in-append (item.Request r ∷ xs) ys = ap (λ (rs : List Request). r ∷ rs) (requests_in-append xs ys)
requests_in-append (item.End p ∷ xs) ys = requests_in-append xs ys

pub sum_ones : {X : Type 0} (xs : List X) → sum_by (λ x. 1) xs ≡ length xs
sum_ones [] = refl
sum_ones (x ∷ xs) = omega (arith, sum_by-cons (λ (y : _). 1) x xs, sum_ones xs)

-- the outstanding numbers whose lines have not come back

abbrev pub weigh_waiting : (ℕ → ℕ) → Outstanding → ℕ
weigh_waiting f e = cond (is_none e.line) (f e.number) 0

numbers_tail : (a : ℕ) (x : Outstanding) (xs : List Outstanding) → map (λ (e : Outstanding). e.number) (x ∷ xs) ≡ range_with_len a (suc (length xs)) → (x.number ≡ a) × (map (λ (e : Outstanding). e.number) xs ≡ range_with_len (a + 1) (length xs))
numbers_tail a x xs is = (let first : x.number ≡ a = cc in first, let rest : map (λ (e : Outstanding). e.number) xs ≡ range_with_len (a + 1) (length xs) = cc in rest)

-- the j-th outstanding number
pub number_at : (a : ℕ) (xs : List Outstanding) (j : ℕ) (e : Outstanding) → map (λ (x : Outstanding). x.number) xs ≡ range_with_len a (length xs) → slice_get xs j ≡ Some e → e.number ≡ a + j
number_at a [] j e numbers is = cc
number_at a (x ∷ xs) zero e numbers is =
    let same : x ≡ e = cc in
    let parts = numbers_tail a x xs numbers in
    ap (λ (y : Outstanding). y.number) (sym same) ∙ parts.0 ∙ omega arith
number_at a (x ∷ xs) (suc j) e numbers is = number_at (a + 1) xs j e (numbers_tail a x xs numbers).1 is ∙ omega arith

other_filled : (n : ℕ) (service : Service) (line : List ℕ) (x : Outstanding) → x.number ≢ n → filled n service line x ≡ x
other_filled n service line x other = ap (λ b. cond b (record x { line = Some line; service = Some service }) x) (ne_eqb x.number n other)

past_filled : (n : ℕ) (service : Service) (line : List ℕ) (a : ℕ) (xs : List Outstanding) → map (λ (x : Outstanding). x.number) xs ≡ range_with_len a (length xs) → n < a → map (filled n service line) xs ≡ xs
past_filled n service line a [] numbers past = refl
past_filled n service line a (x ∷ xs) numbers past =
    let parts = numbers_tail a x xs numbers in
    ap₂ ◌∷◌ (other_filled n service line x (λ same. absurd (omega (arith, past, parts.0, same)))) (past_filled n service line (a + 1) xs parts.1 (omega (arith, past)))

same_filled : (n : ℕ) (service : Service) (line : List ℕ) (x : Outstanding) → x.number ≡ n → filled n service line x ≡ record x { line = Some line; service = Some service }
same_filled n service line x same = ap (λ b. cond b (record x { line = Some line; service = Some service }) x) (eq-eqb x.number n same)

-- a line that comes back takes its number from those that wait
pub sum_filled : (f : ℕ → ℕ) (n : ℕ) (service : Service) (line : List ℕ) (a : ℕ) (xs : List Outstanding) (j : ℕ) (e : Outstanding) → map (λ (x : Outstanding). x.number) xs ≡ range_with_len a (length xs) → slice_get xs j ≡ Some e
    → e.number ≡ n → e.line ≡ None → sum_by (weigh_waiting f) (map (filled n service line) xs) + f n ≡ sum_by (weigh_waiting f) xs
sum_filled f n service line a [] j e numbers is number none = cc
sum_filled f n service line a (x ∷ xs) zero e numbers is number none =
    let same : x ≡ e = cc in
    let parts = numbers_tail a x xs numbers in
    let its : x.number ≡ n = ap (λ (y : Outstanding). y.number) same ∙ number in
    let unfilled : x.line ≡ None = ap (λ (y : Outstanding). y.line) same ∙ none in
    let list : map (filled n service line) (x ∷ xs) ≡ record x { line = Some line; service = Some service } ∷ xs = ap₂ ◌∷◌ (same_filled n service line x its) (past_filled n service line (a + 1) xs parts.1 (omega (arith, parts.0, its))) in
    let weighs : weigh_waiting f x ≡ f n = ap₂ (λ (l : Option (List ℕ)) (m : ℕ). cond (is_none l) (f m) 0) unfilled its in
    omega (arith, ap (sum_by (weigh_waiting f)) list, sum_by-cons (weigh_waiting f) (record x { line = Some line; service = Some service }) xs, sum_by-cons (weigh_waiting f) x xs, weighs)
sum_filled f n service line a (x ∷ xs) (suc j) e numbers is number none =
    let parts = numbers_tail a x xs numbers in
    let far = number_at (a + 1) xs j e parts.1 is in
    let kept = other_filled n service line x (λ same. absurd (omega (arith, far, number, parts.0, same))) in
    let rest = sum_filled f n service line (a + 1) xs j e parts.1 is number none in
    omega (arith, ap (λ (y : Outstanding). sum_by (weigh_waiting f) (y ∷ map (filled n service line) xs)) kept, sum_by-cons (weigh_waiting f) x (map (filled n service line) xs), sum_by-cons (weigh_waiting f) x xs, rest)

-- a number that waits is there

abbrev pub is_number : ℕ → ℕ → ℕ
is_number n m = cond (eqb m n) 1 0

pub record Waits (n : ℕ) (xs : List Outstanding) : Type 0 where
  pub index : ℕ
  pub entry : Outstanding
  pub there : slice_get xs index ≡ Some entry
  pub number : entry.number ≡ n
  pub line : entry.line ≡ None

further : (n : ℕ) (x : Outstanding) (xs : List Outstanding) → Waits n xs → Waits n (x ∷ xs)
further n x xs w = record { index = suc w.index; entry = w.entry; there = w.there; number = w.number; line = w.line }

waits_first : (n : ℕ) (x : Outstanding) (xs : List Outstanding) (l : Option (List ℕ)) (b : Bool) → x.line ≡ l → eqb x.number n ≡ b
    → 1 ≤ sum_by (weigh_waiting (is_number n)) (x ∷ xs) → (1 ≤ sum_by (weigh_waiting (is_number n)) xs → Waits n xs) → Waits n (x ∷ xs)
waits_first n x xs None true unfilled same some rest = record { index = 0; entry = x; there = refl; number = eqb-true x.number n same; line = unfilled }
waits_first n x xs None false unfilled other some rest =
    let none : weigh_waiting (is_number n) x ≡ 0 = ap₂ (λ (l : Option (List ℕ)) (b : Bool). cond (is_none l) (cond b 1 0) 0) unfilled other in
    further n x xs (rest (omega (arith, some, sum_by-cons (weigh_waiting (is_number n)) x xs, none)))
waits_first n x xs (Some line) b has test some rest =
    let none : weigh_waiting (is_number n) x ≡ 0 = ap (λ (l : Option (List ℕ)). cond (is_none l) (is_number n x.number) 0) has in
    further n x xs (rest (omega (arith, some, sum_by-cons (weigh_waiting (is_number n)) x xs, none)))

pub waits_there : (n : ℕ) (xs : List Outstanding) → 1 ≤ sum_by (weigh_waiting (is_number n)) xs → Waits n xs
waits_there n [] some = absurd (omega (arith, some))
waits_there n (x ∷ xs) some = waits_first n x xs x.line (eqb x.number n) refl refl some (waits_there n xs)
