-- The clocks at which requests come to a queue and leave it, in order: how long each one waits, where the first of them leaves soon.
use Rattle.std.proofs.Common.{◌≡◌, ◌≤◌, ◌<◌, ◌+◌, ◌*◌, ◌⊎◌, ℕ, zero, suc, List, [], ◌∷◌, ◌++◌, Some, length, refl, sym, subst, inl, inr, arith}
use Rattle.std.specs.List.{slice_get}
use Rattle.std.proofs.lemmas.List.{length_push}
use Rattle.std.proofs.Math.Nat.{suc-mul}
use Rattle.std.proofs.lemmas.Option.{slice_get_within}
use Rattle.ddr_channel.proofs.PlaceLemmas.{at_place, pushed}

-- lists that grow at the end

pub still_there : {X : Type 0} (xs ys : List X) (k : ℕ) (x : X) → slice_get xs k ≡ Some x → slice_get (xs ++ ys) k ≡ Some x
still_there [] ys k x is = let never : ⊥ = cc in absurd never
still_there (z ∷ zs) ys zero x is = is
still_there (z ∷ zs) ys (suc k) x is = still_there zs ys k x is

last_there : {X : Type 0} (xs : List X) (x : X) → slice_get (xs ++ x ∷ []) (length xs) ≡ Some x
last_there [] x = refl
last_there (z ∷ zs) x = last_there zs x

-- none is less than one before it, and none is more than this one
abbrev pub IsRising : List ℕ → Type 0
IsRising xs = (i j x y : ℕ) → i ≤ j → slice_get xs i ≡ Some x → slice_get xs j ≡ Some y → x ≤ y

abbrev pub IsUntil : List ℕ → ℕ → Type 0
IsUntil xs now = (i x : ℕ) → slice_get xs i ≡ Some x → x ≤ now

pub until_push : (xs : List ℕ) (now : ℕ) → IsUntil xs now → IsUntil (xs ++ now ∷ []) now
until_push xs now until i x at = elim (pushed xs now i x at) [
  | inl old ↦ until i x old.1
  | inr new ↦ omega (arith, new.1)
]

rising_push : (xs : List ℕ) (now : ℕ) → IsRising xs → IsUntil xs now → IsRising (xs ++ now ∷ [])
rising_push xs now rising until i j x y before at_i at_j = elim (pushed xs now j y at_j) [
  | inl old ↦ elim (pushed xs now i x at_i) [
    | inl both ↦ rising i j x y before both.1 old.1
    | inr new ↦ absurd (omega (arith, before, new.0, old.0))
  ]
  | inr new ↦ omega (arith, new.1, until_push xs now until i x at_i)
]

-- so many clocks at most behind the one that left before
pub record IsNext (clocks : ℕ) (left : List ℕ) (i now : ℕ) : Type 0 where
  pub before : ℕ
  pub is : i ≡ suc before
  pub clock : ℕ
  pub there : slice_get left before ≡ Some clock
  pub soon : now ≤ clock + clocks

-- or no later than it comes
abbrev IsSoon : ℕ → List ℕ → ℕ → ℕ → ℕ → Type 0
IsSoon clocks left i x now = (now ≤ x) ⊎ IsNext clocks left i now

soon_still : (clocks : ℕ) (left more : List ℕ) (i x now : ℕ) → IsSoon clocks left i x now → IsSoon clocks (left ++ more) i x now
soon_still clocks left more i x now (inl at) = inl at
soon_still clocks left more i x now (inr next) = inr (record { before = next.before; is = next.is; clock = next.clock; there = still_there left more next.before next.clock next.there; soon = next.soon })

-- one that left: when it came, and that it left soon
record IsLeft (clocks : ℕ) (came left : List ℕ) (i now : ℕ) : Type 0 where
  clock : ℕ
  there : slice_get came i ≡ Some clock
  later : clock ≤ now
  soon : IsSoon clocks left i clock now

-- one that left before another comes
record HasRoom (left : List ℕ) (i x : ℕ) : Type 0 where
  clock : ℕ
  there : slice_get left i ≡ Some clock
  earlier : clock ≤ x

-- so many wait at most
pub record IsBounded (room : ℕ) (came left : List ℕ) : Type 0 where
  pub few : length left ≤ length came
  pub most : length came ≤ length left + room

-- What holds of the clocks of a queue of so much room, from which the first leaves soon.
pub record Waits (room clocks : ℕ) (came left : List ℕ) (now : ℕ) : Type 0 where
  rising : IsRising came
  until : IsUntil came now
  pub ascending : IsRising left
  so_far : IsUntil left now
  -- when one comes, the one that stood so many before it has left
  place : (i n x : ℕ) → n ≡ i + room → slice_get came n ≡ Some x → HasRoom left i x
  each : (i t : ℕ) → slice_get left i ≡ Some t → IsLeft clocks came left i t
  front : (x : ℕ) → slice_get came (length left) ≡ Some x → IsSoon clocks left (length left) x now

never : {X : Type 0} (P : Type 0) (i : ℕ) (x : X) → slice_get [] i ≡ Some x → P
never P i x is = absurd (let impossible = is in cc)

pub waits_begun : (room clocks now : ℕ) → Waits room clocks [] [] now
waits_begun room clocks now = record {
  rising = λ i j x y before at_i at_j. never (x ≤ y) i x at_i;
  until = λ i x at. never (x ≤ now) i x at;
  ascending = λ i j x y before at_i at_j. never (x ≤ y) i x at_i;
  so_far = λ i x at. never (x ≤ now) i x at;
  place = λ i n x is at. never (HasRoom [] i x) n x at;
  each = λ i t at. never (IsLeft clocks [] [] i t) i t at;
  front = λ x at. never (IsSoon clocks [] 0 x now) 0 x at;
}

-- one comes
pub waits_come : (room clocks : ℕ) (came left : List ℕ) (now : ℕ) → Waits room clocks came left now → IsBounded room (came ++ now ∷ []) left → Waits room clocks (came ++ now ∷ []) left now
waits_come room clocks came left now w bounded = record {
  rising = rising_push came now w.rising w.until;
  until = until_push came now w.until;
  ascending = w.ascending;
  so_far = w.so_far;
  place = λ i n x is at. elim (pushed came now n x at) [
    | inl old ↦ w.place i n x is old.1
    | inr new ↦ (let one = at_place left i (within i n is new.0) in record { clock = one.0; there = one.1; earlier = omega (arith, w.so_far i one.0 one.1, new.1) })
  ];
  each = λ i t at. (let one = w.each i t at in record { clock = one.clock; there = still_there came (now ∷ []) i one.clock one.there; later = one.later; soon = one.soon });
  front = λ x at. elim (pushed came now (length left) x at) [
    | inl old ↦ w.front x old.1
    | inr new ↦ inl (omega (arith, new.1))
  ];
}
  where
    within : (i n : ℕ) → n ≡ i + room → n ≡ length came → i < length left
    within i n is last = omega (arith, is, last, bounded.most, length_push came now)

-- the first one leaves
pub waits_leave : (room clocks : ℕ) (came left : List ℕ) (now : ℕ) → Waits room clocks came left now → IsBounded room came (left ++ now ∷ []) → Waits room clocks came (left ++ now ∷ []) now
waits_leave room clocks came left now w bounded = record {
  rising = w.rising;
  until = w.until;
  ascending = rising_push left now w.ascending w.so_far;
  so_far = until_push left now w.so_far;
  place = λ i n x is at. (let one = w.place i n x is at in record { clock = one.clock; there = still_there left (now ∷ []) i one.clock one.there; earlier = one.earlier });
  each = λ i t at. elim (pushed left now i t at) [
    | inl old ↦ (let one = w.each i t old.1 in record { clock = one.clock; there = one.there; later = one.later; soon = soon_still clocks left (now ∷ []) i one.clock t one.soon })
    | inr new ↦ subst (λ k. IsLeft clocks came (left ++ now ∷ []) k t) (sym new.0) (subst (λ k. IsLeft clocks came (left ++ now ∷ []) (length left) k) new.1 first)
  ];
  front = λ x at. inr (record { before = length left; is = omega (arith, length_push left now); clock = now; there = last_there left now; soon = omega arith });
}
  where
    waits : length left < length came
    waits = omega (arith, bounded.few, length_push left now)

    first : IsLeft clocks came (left ++ now ∷ []) (length left) now
    first =
        let one = at_place came (length left) waits in
        record { clock = one.0; there = one.1; later = w.until (length left) one.0 one.1; soon = soon_still clocks left (now ∷ []) (length left) one.0 now (w.front one.0 one.1) }

-- the clock goes on, where none waits or one left soon before
pub waits_on : (room clocks : ℕ) (came left : List ℕ) (now next : ℕ) → now ≤ next → ((x : ℕ) → slice_get came (length left) ≡ Some x → IsNext clocks left (length left) next) → Waits room clocks came left now → Waits room clocks came left next
waits_on room clocks came left now next on late w = record {
  rising = w.rising;
  until = λ i x at. omega (arith, on, w.until i x at);
  ascending = w.ascending;
  so_far = λ i x at. omega (arith, on, w.so_far i x at);
  place = w.place;
  each = w.each;
  front = λ x at. inr (late x at);
}

-- how long each one waits

same_clock : (xs : List ℕ) (i x y : ℕ) → slice_get xs i ≡ Some x → slice_get xs i ≡ Some y → x ≡ y
same_clock xs i x y one other = cc

more : (t clock x k : ℕ) → t ≤ clock → clock ≤ x → t ≤ x + k
more t clock x k first second = omega (arith, first, second)

behind_by : (t clock x turns clocks : ℕ) → t ≤ clock + clocks → clock ≤ x + turns * clocks → t ≤ x + suc turns * clocks
behind_by t clock x turns clocks first second = omega (arith, first, second, suc-mul turns clocks)

-- of one that came, and one that left no later than that one
waited : (room clocks : ℕ) (came left : List ℕ) (now : ℕ) → Waits room clocks came left now → (turns i n x t : ℕ) → i ≤ n → i + room ≤ n + turns → slice_get came n ≡ Some x → slice_get left i ≡ Some t → t ≤ x + turns * clocks
waited room clocks came left now w zero i n x t before within at left_at =
    let reaches = slice_get_within came n x at in
    let one = at_place came (i + room) (omega (arith, within, reaches)) in
    let has = w.place i (i + room) one.0 refl one.1 in
    let same : t ≡ has.clock = same_clock left i t has.clock left_at has.there in
    omega (arith, same, has.earlier, w.rising (i + room) n one.0 x (omega (arith, within)) one.1 at)
waited room clocks came left now w (suc turns) i n x t before within at left_at =
    by_soon (w.each i t left_at) (λ j c earlier enough there. waited room clocks came left now w turns j n x c earlier enough at there)
  where
    by_soon : IsLeft clocks came left i t → ((j c : ℕ) → j ≤ n → j + room ≤ n + turns → slice_get left j ≡ Some c → c ≤ x + turns * clocks) → t ≤ x + suc turns * clocks
    by_soon one on = elim one.soon [
      | inl comes ↦ more t one.clock x (suc turns * clocks) comes (w.rising i n one.clock x before one.there at)
      | inr next ↦ behind_by t next.clock x turns clocks next.soon (on next.before next.clock (omega (arith, before, next.is)) (omega (arith, within, next.is)) next.there)
    ]

-- one that left
pub left_in_time : (room clocks : ℕ) (came left : List ℕ) (now : ℕ) → Waits room clocks came left now → (n x t : ℕ) → slice_get came n ≡ Some x → slice_get left n ≡ Some t → (x ≤ t) × (t ≤ x + room * clocks)
left_in_time room clocks came left now w n x t at left_at =
    let one = w.each n t left_at in
    let same : x ≡ one.clock = same_clock came n x one.clock at one.there in
    (omega (arith, same, one.later), waited room clocks came left now w room n n x t (omega arith) (omega arith) at left_at)

-- one that still waits
first_waits : (room clocks : ℕ) (came left : List ℕ) (now n x y : ℕ) → Waits room clocks came left now → length left ≤ n → n < length left + room → y ≤ x → slice_get came n ≡ Some x → IsSoon clocks left (length left) y now → now ≤ x + room * clocks
first_waits room clocks came left now n x y w behind within before at (inl comes) = more now y x (room * clocks) comes before
first_waits zero clocks came left now n x y w behind within before at (inr next) = absurd (omega (arith, behind, within))
first_waits (suc room) clocks came left now n x y w behind within before at (inr next) =
    behind_by now next.clock x room clocks next.soon
    (waited (suc room) clocks came left now w room next.before n x next.clock (omega (arith, behind, next.is)) (omega (arith, behind, next.is)) at next.there)

pub waiting_in_time : (room clocks : ℕ) (came left : List ℕ) (now : ℕ) → Waits room clocks came left now → IsBounded room came left → (n x : ℕ) → length left ≤ n → slice_get came n ≡ Some x → (x ≤ now) × (now ≤ x + room * clocks)
waiting_in_time room clocks came left now w bounded n x behind at =
    let reaches = slice_get_within came n x at in
    let front = at_place came (length left) (omega (arith, behind, reaches)) in (
      w.until n x at,
      first_waits room clocks came left now n x front.0 w behind (omega (arith, bounded.most, reaches)) (w.rising (length left) n front.0 x behind front.1 at) at (w.front front.0 front.1),
    )
