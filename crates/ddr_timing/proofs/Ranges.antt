-- What a key holds in a table whose values are all in their domains.
use Rattle.std.proofs.Common.{◌≡◌, ℕ, ◌<◌, ◌≤◌, pos, Bool, true, false, ◌&&◌, ◌||◌, not, nat_le, nat_lt, cond, ◌⊎◌, List, [], ◌∷◌, length, get_or, zero, suc, Option, Some, None, lit<, refl, sym, ap, inl, inr, arith}
use Rattle.std.specs.Prelude.{IsSome, ◌==◌, find, option_and_then}
use Rattle.std.specs.Option.{option_map_or}
use Rattle.std.proofs.lemmas.Bool.Decides.{nat_tests}
use Rattle.std.proofs.lemmas.Option.{none-some}
use Rattle.std.proofs.lemmas.Bool.{and_parts, cases_Bool, false≢true, leb-true, ltb-false, not-false, or_cases}
use Rattle.toml.specs.Data.{Data, Members, integer, string}
use Rattle.ddr_timing.specs.declared.key.Key.{Key}
use Rattle.ddr_timing.specs.declared.key.Key.TheVariants.{Version, Channels, Ports, Window, Intake, Reads, Writes, Done, Low, High, Cap, Groups, Rows, Columns, Map, BankXor, Cl, Cwl, Rcd, Rp, Ras, Rc, RrdS, RrdL, Faw, CcdS, CcdL, WtrS, WtrL, Wr, Rtp, Rtw, Rfc, Refi, Postpone, Closed, Ranks, Rtrs}
use Rattle.ddr_timing.specs.declared.key.Domain.{Domain}
use Rattle.ddr_timing.specs.declared.key.Domain.TheVariants.{Within, PowerOfTwo, TwoOrFour, Order, Flag}
use Rattle.std.specs.Int.{is_power_of_two}
use Rattle.ddr_timing.specs.declared.geometry.Digit.{Digit}
use Rattle.ddr_timing.specs.Order.{each_once, whole_text}
use Rattle.ddr_timing.proofs.Orders.{order_of-once, text_of-order_of}
use Rattle.ddr_timing.specs.Keys.{domain_of, first_keys, has_key, keys}
use Rattle.ddr_timing.specs.Refusals.{is_no_power, is_out_of_range, not_power_of_two, out_of_range}
use Rattle.ddr_timing.specs.Tables.{FitsIn, flag_at, is_in, is_within, number_in, number_of, order_at, order_in, takes_number, value_of, version_of}
use Rattle.ddr_timing.specs.Values.{Lists, number_or_one}

first_not : (found : Bool) (key : Key) (rest : Option Key) → cond found (Some key) rest ≡ None → found ≡ false
first_not true key rest none = absurd (none-some key (sym none))
first_not false key rest none = refl

rest_none : (found : Bool) (key : Key) (rest : Option Key) → cond found (Some key) rest ≡ None → rest ≡ None
rest_none true key rest none = absurd (none-some key (sym none))
rest_none false key rest none = none

find-none : (test : Key → Bool) (list : List Key) (i : ℕ) (d : Key) → find test list ≡ None → i < length list → test (get_or list i d) ≡ false
find-none test [] i d none within = absurd (omega arith)
find-none test (key ∷ list) zero d none within = first_not (test key) key (find test list) none
find-none test (key ∷ list) (suc i) d none within =
    find-none test list i d (rest_none (test key) key (find test list) none) (omega arith)

at_place : (test : Key → Bool) → find test (keys 2) ≡ None → (i : ℕ) → i < 38 → test (get_or (keys 2) i Version) ≡ false
unfolding keys first_keys
at_place test none i within = find-none test (keys 2) i Version none within

-- what no key of version 2 passes, no key passes
passes_all : (test : Key → Bool) → find test (keys 2) ≡ None → (key : Key) → test key ≡ false
unfolding keys first_keys
passes_all test none Version = at_place test none 0 (lit< tt)
passes_all test none Channels = at_place test none 1 (lit< tt)
passes_all test none Ports = at_place test none 2 (lit< tt)
passes_all test none Window = at_place test none 3 (lit< tt)
passes_all test none Intake = at_place test none 4 (lit< tt)
passes_all test none Reads = at_place test none 5 (lit< tt)
passes_all test none Writes = at_place test none 6 (lit< tt)
passes_all test none Done = at_place test none 7 (lit< tt)
passes_all test none Low = at_place test none 8 (lit< tt)
passes_all test none High = at_place test none 9 (lit< tt)
passes_all test none Cap = at_place test none 10 (lit< tt)
passes_all test none Groups = at_place test none 11 (lit< tt)
passes_all test none Rows = at_place test none 12 (lit< tt)
passes_all test none Columns = at_place test none 13 (lit< tt)
passes_all test none Map = at_place test none 14 (lit< tt)
passes_all test none BankXor = at_place test none 15 (lit< tt)
passes_all test none Cl = at_place test none 16 (lit< tt)
passes_all test none Cwl = at_place test none 17 (lit< tt)
passes_all test none Rcd = at_place test none 18 (lit< tt)
passes_all test none Rp = at_place test none 19 (lit< tt)
passes_all test none Ras = at_place test none 20 (lit< tt)
passes_all test none Rc = at_place test none 21 (lit< tt)
passes_all test none RrdS = at_place test none 22 (lit< tt)
passes_all test none RrdL = at_place test none 23 (lit< tt)
passes_all test none Faw = at_place test none 24 (lit< tt)
passes_all test none CcdS = at_place test none 25 (lit< tt)
passes_all test none CcdL = at_place test none 26 (lit< tt)
passes_all test none WtrS = at_place test none 27 (lit< tt)
passes_all test none WtrL = at_place test none 28 (lit< tt)
passes_all test none Wr = at_place test none 29 (lit< tt)
passes_all test none Rtp = at_place test none 30 (lit< tt)
passes_all test none Rtw = at_place test none 31 (lit< tt)
passes_all test none Rfc = at_place test none 32 (lit< tt)
passes_all test none Refi = at_place test none 33 (lit< tt)
passes_all test none Postpone = at_place test none 34 (lit< tt)
passes_all test none Closed = at_place test none 35 (lit< tt)
passes_all test none Ranks = at_place test none 36 (lit< tt)
passes_all test none Rtrs = at_place test none 37 (lit< tt)

second_passes : (version : ℕ) (test : Key → Bool) → (version == 2) ≡ true → find test (keys version) ≡ None → find test (keys 2) ≡ None
unfolding keys
second_passes version test second none = rw second at none

first_passes : (version : ℕ) (test : Key → Bool) → (version == 2) ≡ false → find test (keys version) ≡ None → find (λ key. has_key version key && test key) (keys 2) ≡ None
unfolding keys first_keys
first_passes version test first none = rw first (rw first at none)

and_true : (first second : Bool) → first ≡ true → (first && second) ≡ false → second ≡ false
and_true true second e h = h
and_true false second e h = absurd (false≢true e)

-- what no key of a version passes, none that the version has passes
pub passes : (version : ℕ) (test : Key → Bool) → find test (keys version) ≡ None → (key : Key) → has_key version key ≡ true → test key ≡ false
passes version test none key has =
    elim (cases_Bool (version == 2)) [
      | inl second ↦ passes_all test (second_passes version test second none) key
      | inr first ↦ and_true (has_key version key) (test key) has (passes_all (λ other. has_key version other && test other) (first_passes version test first none) key)
    ]

-- the greatest number of a domain
abbrev greatest : Domain → ℕ
greatest (Within low high) = high
greatest (PowerOfTwo low high) = high
greatest TwoOrFour = 4
greatest Order = 0
greatest Flag = 0

-- it is above none of the keys' domains
abbrev is_above : Key → Bool
is_above key = nat_lt 131072 (greatest (domain_of key))

none_above : find is_above (keys 2) ≡ None
unfolding keys first_keys
none_above = refl

greatest-small : (key : Key) → greatest (domain_of key) ≤ 131072
greatest-small key = ltb-false 131072 (greatest (domain_of key)) (passes_all is_above none_above key)

-- the values of the key are powers of two, though the version lacks it
abbrev is_power : Domain → Bool
is_power (PowerOfTwo low high) = true
is_power _ = false

abbrev is_power_lacked : ℕ → Key → Bool
is_power_lacked version key = is_power (domain_of key) && not (has_key version key)

none_lacked : (version : ℕ) → find (is_power_lacked version) (keys 2) ≡ None
unfolding keys first_keys
none_lacked version = refl

-- both versions have each key whose values are powers of two
pub power-has : (version : ℕ) (key : Key) (low high : ℕ) → domain_of key ≡ PowerOfTwo low high → has_key version key ≡ true
power-has version key low high is =
    let lacked : (is_power (domain_of key) && not (has_key version key)) ≡ false = passes_all (is_power_lacked version) (none_lacked version) key in
    not-false _ (rw is at lacked)

-- the value is an integer of the domain
pub record HoldsNumber (domain : Domain) (value : Option Data) : Type 0 where
  pub n : ℕ
  pub is : value ≡ Some (integer (pos n))
  pub fits : FitsIn domain n
  pub bound : n ≤ greatest domain

record HoldsWithin (low high : ℕ) (value : Data) : Type 0 where
  n : ℕ
  is : value ≡ integer (pos n)
  above : low ≤ n
  below : n ≤ high

within-holds : (low high : ℕ) (value : Data) → is_within low high value ≡ true → HoldsWithin low high value
within-holds low high (integer (pos n)) e =
    let (above, below) = and_parts (nat_le low n) (nat_le n high) e in
    record { n = n; is = refl; above = leb-true low n above; below = leb-true n high below }
within-holds low high _ e = absurd (false≢true e)

two_or_four : (value : Data) → (HoldsWithin 2 2 value) ⊎ (HoldsWithin 4 4 value) → HoldsNumber TwoOrFour (Some value)
two_or_four value (inl h) = record { n = h.n; is = ap Some h.is; fits = rw two refl; bound = omega (arith, h.below) }
  where
    two : h.n ≡ 2
    two = omega (arith, h.above, h.below)
two_or_four value (inr h) = record { n = h.n; is = ap Some h.is; fits = rw four refl; bound = omega (arith, h.below) }
  where
    four : h.n ≡ 4
    four = omega (arith, h.above, h.below)

in_domain-holds : (version : ℕ) (domain : Domain) (value : Data) → takes_number domain ≡ true → is_in version domain value ≡ true → HoldsNumber domain (Some value)
in_domain-holds version (Within low high) value takes e =
    let h = within-holds low high value e in
    record { n = h.n; is = ap Some h.is; fits = (h.above, h.below); bound = h.below }
in_domain-holds version (PowerOfTwo low high) value takes e =
    let h = within-holds low high value e in
    record { n = h.n; is = ap Some h.is; fits = (h.above, h.below); bound = h.below }
in_domain-holds version TwoOrFour value takes e =
    elim (or_cases (is_within 2 2 value) (is_within 4 4 value) e) [
      | inl two ↦ two_or_four value (inl (within-holds 2 2 value two))
      | inr four ↦ two_or_four value (inr (within-holds 4 4 value four))
    ]
in_domain-holds version Order value takes e = absurd (false≢true takes)
in_domain-holds version Flag value takes e = absurd (false≢true takes)

holds : (version : ℕ) (domain : Domain) (value : Option Data) → takes_number domain ≡ true → option_map_or (is_in version domain) value false ≡ true → HoldsNumber domain value
holds version domain None takes e = absurd (false≢true e)
holds version domain (Some value) takes e = in_domain-holds version domain value takes e

-- in a table whose values are all in their domains, a key that takes an integer holds one of its domain
pub key-holds : (table : Members) (key : Key) → out_of_range table ≡ None → has_key (version_of table) key ≡ true → takes_number (domain_of key) ≡ true → HoldsNumber (domain_of key) (value_of table key)
key-holds table key ranged has takes =
    holds (version_of table) (domain_of key) (value_of table key) takes (not-false _ (passes (version_of table) (is_out_of_range table) ranged key has))

pub bound-small : (table : Members) (key : Key) (h : HoldsNumber (domain_of key) (value_of table key)) → h.n ≤ 131072
bound-small table key h = omega (arith, h.bound, greatest-small key)

order-some : (version : ℕ) (value : Option Data) → option_map_or (is_in version Order) value false ≡ true → IsSome (option_and_then (order_in version) value)
order-some version None e = absurd (false≢true e)
order-some version (Some (string text)) e = e
order-some version (Some _) e = absurd (false≢true e)

-- and a key that takes an order holds one
pub order_at-some : (table : Members) → out_of_range table ≡ None → IsSome (order_at table Map)
order_at-some table ranged = order-some (version_of table) (value_of table Map) (not-false _ (passes (version_of table) (is_out_of_range table) ranged Map refl))

order_in-once : (version : ℕ) (value : Option Data) (order : List Digit) → option_and_then (order_in version) value ≡ Some order → each_once order ≡ true
order_in-once version None order e = absurd (none-some order e)
order_in-once version (Some (string text)) order e = order_of-once (whole_text version text) order e
order_in-once version (Some _) order e = absurd (none-some order e)

pub order_at-once : (table : Members) (order : List Digit) → order_at table Map ≡ Some order → each_once order ≡ true
order_at-once table order e = order_in-once (version_of table) (value_of table Map) order e

order_in-text : (version : ℕ) (value : Option Data) (order : List Digit) → option_and_then (order_in version) value ≡ Some order → Lists version value order
order_in-text version None order e = absurd (none-some order e)
order_in-text version (Some (string text)) order e = text_of-order_of (whole_text version text) order e
order_in-text version (Some _) order e = absurd (none-some order e)

pub order_at-text : (table : Members) (order : List Digit) → order_at table Map ≡ Some order → Lists (version_of table) (value_of table Map) order
order_at-text table order e = order_in-text (version_of table) (value_of table Map) order e

-- a table whose values are all in their domains says the version by which it is checked
one_or_two : (n : ℕ) → 1 ≤ n → n ≤ 2 → n ≡ cond (n == 2) 2 1
one_or_two n low high = grind (arith, nat_tests)

pub version-said : (table : Members) → out_of_range table ≡ None → number_of table Version ≡ version_of table
version-said table ranged =
    let h = key-holds table Version ranged refl refl in
    let is : number_of table Version ≡ h.n = ap (λ value. option_map_or number_in value 0) h.is in
    one_or_two (number_of table Version) (omega (arith, is, h.fits)) (omega (arith, is, h.fits))

-- version 1 has one rank, open rows and no second rank to wait for
pub is_one_or_two : (n : ℕ) → 1 ≤ n → n ≤ 2 → (n == 1 || n == 2) ≡ true
is_one_or_two n low high = grind (arith, nat_tests)

pub one_rank : (table : Members) (version ranks : ℕ) → version ≡ number_of table Version → ranks ≡ number_or_one table Ranks → (version == 2 || ranks == 1) ≡ true
one_rank table version ranks version_is ranks_is =
    rw (version_is, ranks_is) (by_test (number_of table Version == 2))
  where
    by_test : (b : Bool) → (b || cond (cond b 2 1 == 2) (number_of table Ranks) 1 == 1) ≡ true
    by_test true = refl
    by_test false = refl

pub first_version : (table : Members) (version rtrs : ℕ) (closed : Bool) → version ≡ number_of table Version → rtrs ≡ number_or_one table Rtrs → closed ≡ (version_of table == 2 && flag_at table Closed) → (version == 2 || not closed && rtrs == 1) ≡ true
first_version table version rtrs closed version_is rtrs_is closed_is =
    rw (version_is, rtrs_is, closed_is) (by_test (number_of table Version == 2))
  where
    by_test : (b : Bool) → (b || not (cond b 2 1 == 2 && flag_at table Closed) && cond (cond b 2 1 == 2) (number_of table Rtrs) 1 == 1) ≡ true
    by_test true = refl
    by_test false = refl

-- where no key is at fault for it, rows and columns are powers of two
pub rows-power : (table : Members) → not_power_of_two table ≡ None → is_power_of_two (number_of table Rows) ≡ true
rows-power table powers = not-false _ (passes (version_of table) (is_no_power table) powers Rows refl)

pub columns-power : (table : Members) → not_power_of_two table ≡ None → is_power_of_two (number_of table Columns) ≡ true
columns-power table powers = not-false _ (passes (version_of table) (is_no_power table) powers Columns refl)
