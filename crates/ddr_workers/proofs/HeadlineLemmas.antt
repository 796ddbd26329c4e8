-- From the joined queues to the replies: each port got the right reply to each of its requests, once.
use Rattle.std.proofs.Common.{◌≡◌, ◌≢◌, ℕ, zero, suc, ◌+◌, ◌%◌, ◌<◌, ◌≤◌, Bool, true, false, cond, eqb, ltb, List, [], ◌∷◌, ◌++◌, All, length, map, take, filter, Option, Some, None, slice_get, refl, sym, ap, ◌∙◌, subst, inl, inr, arith}
use Rattle.std.specs.List.{sum_by, range_with_len}
use Rattle.std.specs.Option.{option_map_or}
use Rattle.std.proofs.lemmas.Bool.{eq-eqb, ne_eqb, eqb-true, ltb-true, ltb-false}
use Rattle.std.proofs.lemmas.Bool.Decides.{eqb_tells}
use Rattle.std.proofs.lemmas.List.{append-nil, length-append, length-map}
use Rattle.std.proofs.lemmas.List.Sums.{sum_by-cons, length-filter}
use Rattle.std.proofs.lemmas.List.Sorted.{sum_by-IsPermutation}
use Rattle.std.proofs.lemmas.Option.{slice_get_within, get_or_from_slice_get}
use Rattle.ddr_timing.specs.declared.config.Config.{Config}
use Rattle.ddr_address_map.specs.Requests as records
use Rattle.ddr_address_map.specs.Requests.{Completion}
use Rattle.ddr_channel.specs.History.{Owner}
use Rattle.ddr_channel.specs.Memory.{line_of, line_after}
use Rattle.ddr_channel.specs.Promise.{answer_to, right_answer}
use Rattle.ddr_address_map.specs.Map.{place_of}
use Rattle.ddr_channel.proofs.HeldLemmas.{part_of_sum}
use Rattle.ddr_channel.proofs.ListLemmas.{at_map, mapped_at, All-at}
use Rattle.ddr_reorder.specs.State.{IsWithinLine}
use Rattle.ddr_world.specs.Promise as core
use Rattle.ddr_world.specs.Promise.{bytes_after, bytes_for}
use Rattle.ddr_world.proofs.CoreCounts.{sum_ones}
use Rattle.ddr_world.proofs.CoreReplies.{all_taken, same_answer, served_bytes, some_of_map}
use Rattle.ddr_world.proofs.LineBytes as lines
use Rattle.ddr_world.proofs.LineBytes.{asked_of_line}
use Rattle.ddr_workers.specs.declared.completions.Delivery.{Delivery}
use Rattle.ddr_world.specs.declared.item.Item.{Item}
use Rattle.ddr_world.specs.declared.item.Item.TheVariants.{Request, End}
use Rattle.ddr_workers.specs.declared.requests.Route.{Route}
use Rattle.ddr_workers.specs.Completions.{source_of}
use Rattle.ddr_workers.specs.Headline.{AreJoined, accepted_by, IsReplied, GotAll}
use Rattle.ddr_workers.specs.Port.{PortEnded, reply_of}
use Rattle.ddr_workers.specs.Requests.{of_port}
use Rattle.ddr_workers.specs.Sides.{PutSide}
use Rattle.ddr_workers.specs.Worker.{WorkerEnded, IsWorkDone, requests_of, to_port}
use Rattle.ddr_workers.specs.WorkerView.{IsTaken}
use Rattle.ddr_workers.proofs.ChangedLemmas.{some_there, there_still}
use Rattle.ddr_workers.proofs.CountedLemmas.{numbers_of, sum_flat}
use Rattle.ddr_workers.proofs.TotalLemmas.{total}

-- sums over lists

module _ {X : Type 0} (f : X → ℕ) where
  abbrev IsCountedIn : List X → Type 0
  IsCountedIn xs = (i : ℕ) × (x : X) × (slice_get xs i ≡ Some x) × (1 ≤ f x)

  counted_first : (x : X) (xs : List X) (n : ℕ) → f x ≡ n → 1 ≤ sum_by f (x ∷ xs) → (1 ≤ sum_by f xs → IsCountedIn xs) → IsCountedIn (x ∷ xs)
  counted_first x xs (suc n) is some rest = (0, x, refl, omega (arith, is))
  counted_first x xs zero is some rest = (let found = rest (omega (arith, some, is, sum_by-cons f x xs)) in (suc found.0, found.1, found.2, found.3))

  -- a part that counts is there
  pub counted_there : (xs : List X) → 1 ≤ sum_by f xs → IsCountedIn xs
  counted_there [] some = absurd (omega (arith, some))
  counted_there (x ∷ xs) some = counted_first x xs (f x) refl some (counted_there xs)

  -- two parts at two places
  pub two_parts : (xs : List X) (i j : ℕ) (x y : X) → i ≢ j → slice_get xs i ≡ Some x → slice_get xs j ≡ Some y → f x + f y ≤ sum_by f xs
  two_parts [] i j x y other x_is y_is = cc
  two_parts (z ∷ zs) zero zero x y other x_is y_is = absurd (other refl)
  two_parts (z ∷ zs) zero (suc j) x y other x_is y_is = let same : z ≡ x = cc in omega (arith, sum_by-cons f z zs, part_of_sum f zs j y y_is, ap f same)
  two_parts (z ∷ zs) (suc i) zero x y other x_is y_is = let same : z ≡ y = cc in omega (arith, sum_by-cons f z zs, part_of_sum f zs i x x_is, ap f same)
  two_parts (z ∷ zs) (suc i) (suc j) x y other x_is y_is = omega (arith, sum_by-cons f z zs, two_parts zs i j x y (λ same. other (ap suc same)) x_is y_is)

sum_alike : {X Y : Type 0} (f : X → ℕ) (g : Y → ℕ) (xs : List X) (ys : List Y) → length xs ≡ length ys → ((i : ℕ) (x : X) (y : Y) → slice_get xs i ≡ Some x → slice_get ys i ≡ Some y → f x ≡ g y) → sum_by f xs ≡ sum_by g ys
sum_alike f g [] [] same each = refl
sum_alike f g [] (y ∷ ys) same each = absurd (omega (arith, same))
sum_alike f g (x ∷ xs) [] same each = absurd (omega (arith, same))
sum_alike f g (x ∷ xs) (y ∷ ys) same each =
    omega (arith, sum_by-cons f x xs, sum_by-cons g y ys, each 0 x y refl refl, sum_alike f g xs ys (omega (arith, same)) (λ i a b a_is b_is. each (suc i) a b a_is b_is))

-- a number among a range

abbrev is_number : ℕ → ℕ → ℕ
is_number n m = cond (eqb m n) 1 0

is_its : (n m : ℕ) → m ≡ n → is_number n m ≡ 1
is_its n m same = ap (λ b. cond b 1 0) (eq-eqb m n same)

is_other : (n m : ℕ) → m ≢ n → is_number n m ≡ 0
is_other n m other = ap (λ b. cond b 1 0) (ne_eqb m n other)

below_range : (n a m : ℕ) → n < a → sum_by (is_number n) (range_with_len a m) ≡ 0
below_range n a zero below = refl
below_range n a (suc m) below = omega (arith, sum_by-cons (is_number n) a (range_with_len (a + 1) m), is_other n a (λ same. absurd (omega (arith, below, same))), below_range n (a + 1) m (omega (arith, below)))

past_range : (n a m : ℕ) → a + m ≤ n → sum_by (is_number n) (range_with_len a m) ≡ 0
past_range n a zero past = refl
past_range n a (suc m) past = omega (arith, sum_by-cons (is_number n) a (range_with_len (a + 1) m), is_other n a (λ same. absurd (omega (arith, past, same))), past_range n (a + 1) m (omega (arith, past)))

in_range_once : (n a m : ℕ) → a ≤ n → n < a + m → sum_by (is_number n) (range_with_len a m) ≡ 1
in_range_once n a zero low high = absurd (omega (arith, low, high))
in_range_once n a (suc m) low high = elim (eqb_tells a n) [
  | inl same ↦ omega (arith, sum_by-cons (is_number n) a (range_with_len (a + 1) m), is_its n a same.1, below_range n (a + 1) m (omega (arith, same.1)))
  | inr other ↦ omega (arith, sum_by-cons (is_number n) a (range_with_len (a + 1) m), is_other n a other.1, in_range_once n (a + 1) m (omega (arith, low, other.1)) (omega (arith, high)))
]

-- a number below the bound is counted once, and no other
counted_below : (n m : ℕ) → 1 ≤ sum_by (is_number n) (range_with_len 0 m) → n < m
counted_below n m some = by_test (ltb n m) refl
  where
    by_test : (b : Bool) → ltb n m ≡ b → n < m
    by_test true low = ltb-true n m low
    by_test false past = absurd (omega (arith, some, past_range n 0 m (omega (arith, ltb-false n m past))))

at_most_once : (n m : ℕ) → sum_by (is_number n) (range_with_len 0 m) ≤ 1
at_most_once n m = by_test (ltb n m) refl
  where
    by_test : (b : Bool) → ltb n m ≡ b → sum_by (is_number n) (range_with_len 0 m) ≤ 1
    by_test true low = omega (arith, in_range_once n 0 m (omega arith) (omega (arith, ltb-true n m low)))
    by_test false past = omega (arith, past_range n 0 m (omega (arith, ltb-false n m past)))

-- parts of lists

abbrev IsWithin : {X : Type 0} → (X → Bool) → List X → X → Type 0
IsWithin test xs x = (j : ℕ) × (slice_get xs j ≡ Some x) × (test x ≡ true)

within_first : {X : Type 0} (test : X → Bool) (y x : X) (ys : List X) (b : Bool) → test y ≡ b → (k : ℕ) → slice_get (cond b (y ∷ filter test ys) (filter test ys)) k ≡ Some x
    → ((n : ℕ) → slice_get (filter test ys) n ≡ Some x → IsWithin test ys x) → IsWithin test (y ∷ ys) x
within_first test y x ys true passes zero is rest = let same : y ≡ x = cc in (0, is, ap test (sym same) ∙ passes)
within_first test y x ys true passes (suc k) is rest = (let found = rest k is in (suc found.0, found.1, found.2))
within_first test y x ys false fails k is rest = (let found = rest k is in (suc found.0, found.1, found.2))

pub within_filter : {X : Type 0} (test : X → Bool) (xs : List X) (k : ℕ) (x : X) → slice_get (filter test xs) k ≡ Some x → IsWithin test xs x
within_filter test [] k x is = cc
within_filter test (y ∷ ys) k x is = within_first test y x ys (test y) refl k is (λ n at. within_filter test ys n x at)

into_first : {X : Type 0} (y x : X) (ys : List X) (b : Bool) → (k : ℕ) × (slice_get ys k ≡ Some x) → (k : ℕ) × (slice_get (cond b (y ∷ ys) ys) k ≡ Some x)
into_first y x ys true found = (suc found.0, found.1)
into_first y x ys false found = found

pub into_filter : {X : Type 0} (test : X → Bool) (xs : List X) (j : ℕ) (x : X) → slice_get xs j ≡ Some x → test x ≡ true → (k : ℕ) × (slice_get (filter test xs) k ≡ Some x)
into_filter test [] j x is passes = cc
into_filter test (y ∷ ys) zero x is passes =
    let same : y ≡ x = cc in
    (0, ap (λ b. slice_get (cond b (y ∷ filter test ys) (filter test ys)) 0) (ap test same ∙ passes) ∙ is)
into_filter test (y ∷ ys) (suc j) x is passes = into_first y x (filter test ys) (test y) (into_filter test ys j x is passes)

-- what a test counts
one_of : {X : Type 0} (test : X → Bool) (xs : List X) → sum_by (λ x. cond (test x) 1 0) xs ≡ 1 → (x : X) × (filter test xs ≡ x ∷ [])
one_of test xs one = by_list (filter test xs) refl (length-filter test xs ∙ one)
  where
    by_list : (ys : List _) → filter test xs ≡ ys → length (filter test xs) ≡ 1 → (x : _) × (filter test xs ≡ x ∷ [])
    by_list [] is count = absurd (omega (arith, count, ap length is))
    by_list (y ∷ []) is count = (y, is)
    by_list (y ∷ z ∷ zs) is count = absurd (omega (arith, count, ap length is))

-- the requests of a port among those that a worker took

request_of-port : (b : Bool) (r : records.Request) (items : List Item) (rs : List records.Request) → requests_of items ≡ rs → requests_of (cond b (Request r ∷ items) items) ≡ cond b (r ∷ rs) rs
request_of-port true r items rs same = ap (λ (qs : List records.Request). r ∷ qs) same
request_of-port false r items rs same = same

end_of-port : (b : Bool) (q : ℕ) (items : List Item) → requests_of (cond b (End q ∷ items) items) ≡ requests_of items
end_of-port true q items = refl
end_of-port false q items = refl

pub requests_of-port : (p : ℕ) (items : List Item) → requests_of (of_port p items) ≡ filter (λ r. eqb r.port p) (requests_of items)
requests_of-port p [] = refl
requests_of-port p (Request r ∷ items) = request_of-port (eqb r.port p) r (of_port p items) (filter (λ q. eqb q.port p) (requests_of items)) (requests_of-port p items)
requests_of-port p (End q ∷ items) = end_of-port (eqb q p) q (of_port p items) ∙ requests_of-port p items

-- what the requests of a port weigh
abbrev weigh : (ℕ → ℕ) → ℕ → records.Request → ℕ
weigh f p r = cond (eqb r.port p) (f r.number) 0

first_weighs : (f : ℕ → ℕ) (r : records.Request) (rs : List records.Request) (b : Bool) (n : ℕ) → sum_by f (map (λ (q : records.Request). q.number) rs) ≡ n
    → sum_by f (map (λ (q : records.Request). q.number) (cond b (r ∷ rs) rs)) ≡ cond b (f r.number) 0 + n
first_weighs f r rs true n rest = omega (arith, sum_by-cons f r.number (map (λ (q : records.Request). q.number) rs), rest)
first_weighs f r rs false n rest = omega (arith, rest)

filter_weighs : (f : ℕ → ℕ) (p : ℕ) (rs : List records.Request) → sum_by f (map (λ (r : records.Request). r.number) (filter (λ r. eqb r.port p) rs)) ≡ sum_by (weigh f p) rs
filter_weighs f p [] = refl
filter_weighs f p (r ∷ rs) =
    first_weighs f r (filter (λ q. eqb q.port p) rs) (eqb r.port p) (sum_by (weigh f p) rs) (filter_weighs f p rs) ∙ sym (sum_by-cons (weigh f p) r rs)

sum_mapped : {X : Type 0} (f : ℕ → ℕ) (g : X → ℕ) (xs : List X) → sum_by f (map g xs) ≡ sum_by (λ x. f (g x)) xs
sum_mapped f g [] = refl
sum_mapped f g (x ∷ xs) = omega (arith, sum_by-cons f (g x) (map g xs), sum_by-cons (λ (y : _). f (g y)) x xs, sum_mapped f g xs)

-- the acceptance lists

accepted_at : (workers : List WorkerEnded) (c : ℕ) (w : WorkerEnded) → slice_get workers c ≡ Some w → accepted_by workers c ≡ requests_of w.requests.took
accepted_at workers c w is = ap (λ (o : Option WorkerEnded). option_map_or (λ x. requests_of x.requests.took) o []) is

record Accepted (workers : List WorkerEnded) (c place : ℕ) (r : records.Request) : Type 0 where
  worker : WorkerEnded
  at : slice_get workers c ≡ Some worker
  there : slice_get (requests_of worker.requests.took) place ≡ Some r

accepted_there : (workers : List WorkerEnded) (c place : ℕ) (r : records.Request) → slice_get (accepted_by workers c) place ≡ Some r → Accepted workers c place r
accepted_there workers c place r is = by_worker (slice_get workers c) refl is
  where
    by_worker : (o : Option WorkerEnded) → slice_get workers c ≡ o → slice_get (option_map_or (λ w. requests_of w.requests.took) o []) place ≡ Some r → Accepted workers c place r
    by_worker None at is = cc
    by_worker (Some w) at is = record { worker = w; at = at; there = is }

-- what a port's requests count in all acceptance lists

abbrev of_worker : (ℕ → ℕ) → ℕ → WorkerEnded → ℕ
of_worker f p w = sum_by (weigh f p) (requests_of w.requests.took)

port_weighs : (ports : List PortEnded) (workers : List WorkerEnded) (left : ℕ → List Completion) (f : ℕ → ℕ) (p : ℕ) (e : PortEnded) → AreJoined ports workers left → slice_get ports p ≡ Some e
    → sum_by (of_worker f p) workers ≡ sum_by f (range_with_len 0 e.taken)
port_weighs ports workers left f p e j at =
    let ended = (j.port p e at).1 in
    let alike = sum_alike (λ (side : PutSide Route Item). sum_by f (numbers_of side)) (of_worker f p) e.requests workers (j.channels p e at) (λ c side w side_is w_is.
    let list : requests_of side.put ≡ filter (λ r. eqb r.port p) (requests_of w.requests.took) = ap requests_of (sym (j.requests p c e w side at w_is side_is)) ∙ requests_of-port p w.requests.took in
    ap (λ (rs : List records.Request). sum_by f (map (λ (r : records.Request). r.number) rs)) list ∙ filter_weighs f p (requests_of w.requests.took)) in
    sym alike ∙ sym (sum_flat f numbers_of e.requests) ∙ ended.asked f

-- a request of the port weighs one
own_weight : (p n : ℕ) (r : records.Request) → r.port ≡ p → r.number ≡ n → weigh (is_number n) p r ≡ 1
own_weight p n r port number = ap (λ b. cond b (is_number n r.number) 0) (eq-eqb r.port p port) ∙ is_its n r.number number

in_worker : (p n place : ℕ) (w : WorkerEnded) (r : records.Request) → slice_get (requests_of w.requests.took) place ≡ Some r → r.port ≡ p → r.number ≡ n → 1 ≤ of_worker (is_number n) p w
in_worker p n place w r there port number = omega (arith, part_of_sum (weigh (is_number n) p) (requests_of w.requests.took) place r there, own_weight p n r port number)

numbered : (ports : List PortEnded) (workers : List WorkerEnded) (left : ℕ → List Completion) (p : ℕ) (e : PortEnded) (c place : ℕ) (r : records.Request) → AreJoined ports workers left → slice_get ports p ≡ Some e
    → slice_get (accepted_by workers c) place ≡ Some r → r.port ≡ p → r.number < e.taken
numbered ports workers left p e c place r j at there port =
    let a = accepted_there workers c place r there in
    let f = is_number r.number in
    counted_below r.number e.taken (omega (arith, port_weighs ports workers left f p e j at, part_of_sum (of_worker f p) workers c a.worker a.at, in_worker p r.number place a.worker r a.there port refl))

-- two that are not nothing are more than one
more_than_one : (total most first second : ℕ) → first + second ≤ total → total ≡ most → most ≤ 1 → 1 ≤ first → 1 ≤ second → ⊥
more_than_one total most first second parts same limit one other = omega (arith, parts, same, limit, one, other)

two_in_one : (total most whole first second : ℕ) → whole ≤ total → first + second ≤ whole → total ≡ most → most ≤ 1 → first ≡ 1 → second ≡ 1 → ⊥
two_in_one total most whole first second part parts same limit one other = omega (arith, part, parts, same, limit, one, other)

one_place : (ports : List PortEnded) (workers : List WorkerEnded) (left : ℕ → List Completion) (p : ℕ) (e : PortEnded) (c d place other : ℕ) (r q : records.Request) → AreJoined ports workers left → slice_get ports p ≡ Some e
    → slice_get (accepted_by workers c) place ≡ Some r → slice_get (accepted_by workers d) other ≡ Some q → r.port ≡ p → q.port ≡ p → r.number ≡ q.number → (c ≡ d) × (place ≡ other)
one_place ports workers left p e c d place other r q j at r_there q_there r_port q_port number =
    let a = accepted_there workers c place r r_there in
    let b = accepted_there workers d other q q_there in
    let f = is_number r.number in
    let total = port_weighs ports workers left f p e j at in
    let most = at_most_once r.number e.taken in
    elim (eqb_tells c d) [
      | inr apart ↦ absurd (more_than_one _ _ (of_worker f p a.worker) (of_worker f p b.worker) (two_parts (of_worker f p) workers c d a.worker b.worker apart.1 a.at b.at) total most
          (in_worker p r.number place a.worker r a.there r_port refl)
          (in_worker p r.number other b.worker q b.there q_port (sym number)))
      | inl same ↦ (let workers_are : Some a.worker ≡ Some b.worker = sym a.at ∙ ap (slice_get workers) same.1 ∙ b.at in
          let worker : a.worker ≡ b.worker = cc in
          let q_here : slice_get (requests_of a.worker.requests.took) other ≡ Some q = ap (λ (w : WorkerEnded). slice_get (requests_of w.requests.took) other) worker ∙ b.there in
          elim (eqb_tells place other) [
            | inl here ↦ (same.1, here.1)
            | inr apart ↦ absurd (two_in_one _ _ (of_worker f p a.worker) (weigh f p r) (weigh f p q) (part_of_sum (of_worker f p) workers c a.worker a.at)
                (two_parts (weigh f p) (requests_of a.worker.requests.took) place other r q apart.1 a.there q_here) total most
                (own_weight p r.number r r_port refl)
                (own_weight p r.number q q_port (sym number)))
          ])
    ]

-- each accepted request stands at its address's place, on its channel, and lies in one line

placed : (ports : List PortEnded) (workers : List WorkerEnded) (left : ℕ → List Completion) (c : ℕ) (w : WorkerEnded) (j : AreJoined ports workers left) → (at : slice_get workers c ≡ Some w)
    → (i : ℕ) (r : records.Request) → slice_get (requests_of w.requests.took) i ≡ Some r → lines.IsPlaced w.config.geometry c r
placed ports workers left c w j at i r there =
    let ended = (j.worker c w at).1 in
    let taken : IsTaken w.requests.who.queue.purpose (length w.completions) r = All-at (IsTaken w.requests.who.queue.purpose (length w.completions)) (requests_of w.requests.took) i r ended.taken there in
    let port = some_there ports r.port (omega (arith, taken.port, j.ports_are c w at)) in
    let side = some_there port.0.requests c (omega (arith, slice_get_within workers c w at, j.channels r.port port.0 port.1)) in
    let list : requests_of side.0.put ≡ filter (λ q. eqb q.port r.port) (requests_of w.requests.took) =
    ap requests_of (sym (j.requests r.port c port.0 w side.0 port.1 at side.1)) ∙ requests_of-port r.port w.requests.took in
    let own = into_filter (λ q. eqb q.port r.port) (requests_of w.requests.took) i r there (eq-eqb r.port r.port refl) in
    let within = All-at (λ q. IsWithinLine q.echo) (requests_of side.0.put) own.0 r ((j.port r.port port.0 port.1).1.within c side.0 side.1) (ap (λ (rs : List records.Request). slice_get rs own.0) list ∙ own.1) in
    record {
      placed = ap (λ (t : Route). place_of t.geometry r.echo.addr) (sym ended.route) ∙ taken.placed.place;
      channel = taken.placed.channel ∙ ap (λ (t : Route). t.channel) ended.route ∙ (j.worker c w at).0;
      within = within;
    }

-- a right answer is the reply to its request
right_reply : (ports : List PortEnded) (workers : List WorkerEnded) (left : ℕ → List Completion) (c : ℕ) (w : WorkerEnded) (j : AreJoined ports workers left) → (at : slice_get workers c ≡ Some w)
    → (owner : Owner) (r : records.Request) (d : Completion) → slice_get (requests_of w.requests.took) owner.place ≡ Some r → answer_to w.config (requests_of w.requests.took) owner r ≡ d
    → reply_of d ≡ core.reply_of (take owner.place (requests_of w.requests.took)) r
right_reply ports workers left c w j at owner r d there is =
    let accepted = requests_of w.requests.took in
    let earlier = take owner.place accepted in
    let geometry = w.config.geometry in
    let burst = line_after earlier (line_of r.place) in
    let off = r.echo.addr % 64 in
    let its = placed ports workers left c w j at in
    let asked = asked_of_line geometry c r earlier (its owner.place r there) (all_taken (lines.IsPlaced geometry c) accepted owner.place its) in
    ap reply_of (sym is) ∙ same_answer (reply_of (answer_to w.config accepted owner r)) (core.reply_of earlier r) refl refl
    (served_bytes r.echo.kind off r.echo.len r.echo.addr burst r.line earlier asked)

-- a completion that a port got is the answer to a request

record Answered (ports : List PortEnded) (workers : List WorkerEnded) (p : ℕ) (d : Completion) : Type 0 where
  channel : ℕ
  place : ℕ
  request : records.Request
  there : slice_get (accepted_by workers channel) place ≡ Some request
  port : request.port ≡ p
  number : request.number ≡ d.number
  reply : reply_of d ≡ core.reply_of (take place (accepted_by workers channel)) request

answered : (ports : List PortEnded) (workers : List WorkerEnded) (left : ℕ → List Completion) (p i : ℕ) (e : PortEnded) (d : Completion) → AreJoined ports workers left → slice_get ports p ≡ Some e
    → slice_get e.completions.took i ≡ Some d → Answered ports workers p d
answered ports workers left p i e d j at got =
    let purpose = e.completions.who.queue.purpose in
    let all = e.completions.took ++ left p in
    let here : slice_get all i ≡ Some d = there_still e.completions.took (left p) i d got in
    let c = source_of purpose d in
    let worker = some_there workers c (All-at (λ x. source_of purpose x < length workers) all i d (j.delivered p e at) here) in
    let w = worker.0 in
    let side = some_there w.completions p (omega (arith, slice_get_within ports p e at, j.ports_are c w worker.1)) in
    let own = into_filter (λ x. eqb (source_of purpose x) c) all i d here (eq-eqb c c refl) in
    let put : slice_get side.0.put own.0 ≡ Some d = ap (λ (ds : List Completion). slice_get ds own.0) (sym (j.completions p c e w side.0 at worker.1 side.1)) ∙ own.1 in
    let work = (j.worker c w worker.1).1.work in
    let config = w.config in
    let sent : to_port p work.dones ≡ side.0.put = work.sent.sent p side.0 side.1 ∙ append-nil side.0.put in
    let done = within_filter (λ x. eqb x.port p) work.dones own.0 d (ap (λ (ds : List Completion). slice_get ds own.0) sent ∙ put) in
    let accepted = requests_of w.requests.took in
    let answer : slice_get (map (right_answer config accepted) work.owners) done.0 ≡ Some (Some d) = ap (λ (xs : List (Option Completion)). slice_get xs done.0) (sym work.answers) ∙ mapped_at Some work.dones done.0 d done.1 in
    let owner = at_map (right_answer config accepted) work.owners done.0 (Some d) answer in
    let request = some_of_map (answer_to config accepted owner.0) (slice_get accepted owner.0.place) d owner.2 in
    let r = request.0 in
    let list = accepted_at workers c w worker.1 in
    record {
      channel = c;
      place = owner.0.place;
      request = r;
      there = ap (λ (rs : List records.Request). slice_get rs owner.0.place) list ∙ request.1;
      port = ap (λ (x : Completion). x.port) request.2 ∙ eqb-true d.port p done.2;
      number = ap (λ (x : Completion). x.number) request.2;
      reply = right_reply ports workers left c w j worker.1 owner.0 r d request.1 request.2 ∙ ap (λ (rs : List records.Request). core.reply_of (take owner.0.place rs) r) (sym list);
    }

replied : (ports : List PortEnded) (workers : List WorkerEnded) (left : ℕ → List Completion) (p n : ℕ) (e : PortEnded) → AreJoined ports workers left → slice_get ports p ≡ Some e → n < e.taken
    → IsReplied (accepted_by workers) p e.completions.took n
replied ports workers left p n e j at below =
    let ended = (j.port p e at).1 in
    let took = e.completions.took in
    let once : sum_by (λ (d : Completion). is_number n d.number) took ≡ 1 =
    sym (sum_mapped (is_number n) (λ (d : Completion). d.number) took) ∙ ended.got (is_number n) ∙ in_range_once n 0 e.taken (omega arith) (omega (arith, below)) in
    let one = one_of (λ (d : Completion). eqb d.number n) took once in
    let first = within_filter (λ (d : Completion). eqb d.number n) took 0 one.0 (ap (λ (ds : List Completion). slice_get ds 0) one.1) in
    let a = answered ports workers left p first.0 e one.0 j at first.1 in
    record {
      channel = a.channel;
      place = a.place;
      request = a.request;
      there = a.there;
      port = a.port;
      number = a.number ∙ eqb-true one.0.number n first.2;
      done = one.0;
      once = one.1;
      reply = a.reply;
    }

-- the headline: each port got the right reply to each of its requests, once
pub got_all : (ports : List PortEnded) (workers : List WorkerEnded) (left : ℕ → List Completion) (p : ℕ) (e : PortEnded) → AreJoined ports workers left → slice_get ports p ≡ Some e → GotAll (accepted_by workers) p e
got_all ports workers left p e j at = record {
  numbered = λ c place r there port. numbered ports workers left p e c place r j at there port;
  one = λ c d place other r q r_there q_there r_port q_port number. one_place ports workers left p e c d place other r q j at r_there q_there r_port q_port number;
  replied = λ n below. replied ports workers left p n e j at below;
}

-- nothing is left in a completion queue: as much was pushed on it as its port got

told_places : {X : Type 0} (h : X → ℕ) (g : ℕ → ℕ) (a : ℕ) (xs : List X) → ((k : ℕ) → g (a + k) ≡ option_map_or h (slice_get xs k) 0) → sum_by g (range_with_len a (length xs)) ≡ sum_by h xs
told_places h g a [] told = refl
told_places h g a (x ∷ xs) told =
    let here : g a ≡ h x = ap g (omega arith) ∙ told 0 in
    omega (arith, here, sum_by-cons g a (range_with_len (a + 1) (length xs)), sum_by-cons h x xs, told_places h g (a + 1) xs (λ k. ap g (omega arith) ∙ told (suc k)))

-- a completion is of its request's port
abbrev port_at : ℕ → List records.Request → ℕ → ℕ
port_at p accepted place = option_map_or (weigh (λ n. 1) p) (slice_get accepted place) 0

answer_port : (config : Config) (p : ℕ) (accepted : List records.Request) (o : Owner) (d : Completion) → right_answer config accepted o ≡ Some d → cond (eqb d.port p) 1 0 ≡ port_at p accepted o.place
answer_port config p accepted o d is =
    let request = some_of_map (answer_to config accepted o) (slice_get accepted o.place) d is in
    let same : d.port ≡ request.0.port = ap (λ (x : Completion). x.port) (sym request.2) in
    ap (λ n. cond (eqb n p) 1 0) same ∙ ap (λ (x : Option records.Request). option_map_or (weigh (λ n. 1) p) x 0) (sym request.1)

answers_ports : (config : Config) (p : ℕ) (accepted : List records.Request) (dones : List Completion) (owners : List Owner) → map Some dones ≡ map (right_answer config accepted) owners
    → sum_by (λ (d : Completion). cond (eqb d.port p) 1 0) dones ≡ sum_by (λ (o : Owner). port_at p accepted o.place) owners
answers_ports config p accepted [] [] same = refl
answers_ports config p accepted [] (o ∷ os) same = cc
answers_ports config p accepted (d ∷ ds) [] same = cc
answers_ports config p accepted (d ∷ ds) (o ∷ os) same =
    let first : right_answer config accepted o ≡ Some d = cc in
    let rest : map Some ds ≡ map (right_answer config accepted) os = cc in
    omega (arith, answer_port config p accepted o d first, sum_by-cons (λ (x : Completion). cond (eqb x.port p) 1 0) d ds, sum_by-cons (λ (x : Owner). port_at p accepted x.place) o os, answers_ports config p accepted ds os rest)

-- a worker pushed as many completions for a port as it took requests of it
pushed_count : (w : WorkerEnded) (config : Config) (p : ℕ) (side : PutSide Delivery Completion) → (work : IsWorkDone config w) → slice_get w.completions p ≡ Some side → length side.put ≡ of_worker (λ n. 1) p w
pushed_count w config p side work there =
    let accepted = requests_of w.requests.took in
    let sent : to_port p work.dones ≡ side.put = work.sent.sent p side there ∙ append-nil side.put in
    let count = length-filter (λ (d : Completion). eqb d.port p) work.dones in
    let ports = answers_ports config p accepted work.dones work.owners work.answers in
    let places = sum_mapped (port_at p accepted) (λ (o : Owner). o.place) work.owners in
    let permuted = sum_by-IsPermutation (port_at p accepted) (range_with_len 0 (length accepted)) (map (λ (o : Owner). o.place) work.owners) work.each_once in
    let all = told_places (weigh (λ n. 1) p) (port_at p accepted) 0 accepted (λ k. ap (port_at p accepted) (omega arith)) in
    omega (arith, ap length sent, count, ports, places, permuted, all)

abbrev put_of : ℕ → WorkerEnded → List Completion
put_of p w = option_map_or (λ (side : PutSide Delivery Completion). side.put) (slice_get w.completions p) []

nothing_behind : {X : Type 0} (xs ys : List X) → length (xs ++ ys) ≡ length xs → ys ≡ []
nothing_behind xs [] same = refl
nothing_behind xs (y ∷ ys) same = absurd (omega (arith, same, length-append xs (y ∷ ys)))

pub none_left : (ports : List PortEnded) (workers : List WorkerEnded) (left : ℕ → List Completion) (p : ℕ) (e : PortEnded) → AreJoined ports workers left → slice_get ports p ≡ Some e → left p ≡ []
none_left ports workers left p e j at =
    let purpose = e.completions.who.queue.purpose in
    let all = e.completions.took ++ left p in
    let ended = (j.port p e at).1 in
    let lists = map (put_of p) workers in
    let count : length lists ≡ length workers = length-map workers (put_of p) in
    let whole = total (source_of purpose) lists all (subst (λ n. All (λ x. source_of purpose x < n) all) (sym count) (j.delivered p e at)) (λ c below.
    let worker = some_there workers c (omega (arith, below, count)) in
    let side = some_there worker.0.completions p (omega (arith, slice_get_within ports p e at, j.ports_are c worker.0 worker.1)) in
    let put : put_of p worker.0 ≡ side.0.put = ap (λ (o : Option (PutSide Delivery Completion)). option_map_or (λ s. s.put) o []) side.1 in
    j.completions p c e worker.0 side.0 at worker.1 side.1 ∙ sym put ∙ sym (get_or_from_slice_get lists c (put_of p worker.0) [] (mapped_at (put_of p) workers c worker.0 worker.1))) in
    let pushed = sum_alike (length) (of_worker (λ n. 1) p) lists workers count (λ c list w list_is w_is.
    let side = some_there w.completions p (omega (arith, slice_get_within ports p e at, j.ports_are c w w_is)) in
    let same : Some list ≡ Some (put_of p w) = sym list_is ∙ mapped_at (put_of p) workers c w w_is in
    let list_put : list ≡ put_of p w = cc in
    let put : put_of p w ≡ side.0.put = ap (λ (o : Option (PutSide Delivery Completion)). option_map_or (λ s. s.put) o []) side.1 in
    ap length (list_put ∙ put) ∙ pushed_count w w.config p side.0 (j.worker c w w_is).1.work side.1) in
    let asked = port_weighs ports workers left (λ n. 1) p e j at in
    let got : sum_by (λ (d : Completion). 1) e.completions.took ≡ sum_by (λ n. 1) (range_with_len 0 e.taken) = sym (sum_mapped (λ n. 1) (λ (d : Completion). d.number) e.completions.took) ∙ ended.got (λ n. 1) in
    let length_got : sum_by (λ (d : Completion). 1) e.completions.took ≡ length e.completions.took = sum_ones e.completions.took in
    nothing_behind e.completions.took (left p) (omega (arith, whole, pushed, asked, got, length_got))
