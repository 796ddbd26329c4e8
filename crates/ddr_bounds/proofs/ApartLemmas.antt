-- How many column commands fit into a span of cycles.
use Rattle.std.proofs.Common.{◌≡◌, ℕ, zero, suc, ◌+◌, ◌*◌, ◌<◌, ◌≤◌, Bool, true, false, cond, List, [], ◌∷◌, Option, Some, None, map, length, refl, ap, subst, ◌∙◌, arith}
use Rattle.std.specs.List.{AllByRecursion, filter, slice_get}
use Rattle.std.specs.Option.{option_map}
use Rattle.ddr_trace.specs.declared.command.Entry.{Entry}
use Rattle.ddr_trace.specs.Commands.{entry, is_column}
use Rattle.ddr_address_map.specs.Requests.{Request}
use Rattle.ddr_arbiter.specs.Commands.{column_of}
use Rattle.ddr_channel.specs.History.{Owner}
use Rattle.ddr_channel.specs.Promise.{owned_entry}
use Rattle.ddr_bounds.specs.Columns.{AreColumnsApart}

-- each cycle stands at least 4 clocks before all later ones
abbrev pub AreApart : List ℕ → Type 0
AreApart [] = Unit {0}
AreApart (x ∷ xs) = AllByRecursion (λ y. x + 4 ≤ y) xs × AreApart xs

abbrev pub cycles : List Owner → List ℕ
cycles owners = map (λ o. o.cycle) owners

-- the column commands of a trace

all_behind : (x : ℕ) (entries : List Entry) → ((j : ℕ) (e : Entry) → slice_get entries j ≡ Some e → is_column e.command ≡ true → x + 4 ≤ e.cycle) →
    AllByRecursion (λ y. x + 4 ≤ y) (map (λ e. e.cycle) (filter (λ e. is_column e.command) entries))
all_behind x [] far = tt
all_behind x (e ∷ es) far = by_kind (is_column e.command) refl (all_behind x es (λ j f is column. far (suc j) f is column))
  where
    by_kind : (w : Bool) → is_column e.command ≡ w → AllByRecursion (λ y. x + 4 ≤ y) (map (λ f. f.cycle) (filter (λ f. is_column f.command) es)) →
        AllByRecursion (λ y. x + 4 ≤ y) (map (λ f. f.cycle) (cond w (e ∷ filter (λ f. is_column f.command) es) (filter (λ f. is_column f.command) es)))
    by_kind true is rest = (far zero e refl is, rest)
    by_kind false is rest = rest

apart_in_trace : (entries : List Entry) → AreColumnsApart entries → AreApart (map (λ e. e.cycle) (filter (λ e. is_column e.command) entries))
apart_in_trace [] apart = tt
apart_in_trace (e ∷ es) apart = by_kind (is_column e.command) refl (apart_in_trace es (λ i j a b before here there first second. apart (suc i) (suc j) a b (omega arith) here there first second))
  where
    by_kind : (w : Bool) → is_column e.command ≡ w → AreApart (map (λ f. f.cycle) (filter (λ f. is_column f.command) es)) →
        AreApart (map (λ f. f.cycle) (cond w (e ∷ filter (λ f. is_column f.command) es) (filter (λ f. is_column f.command) es)))
    by_kind true is rest = (all_behind e.cycle es (λ j f there column. apart zero (suc j) e f (omega arith) refl there is column), rest)
    by_kind false is rest = rest

-- the owners' cycles are those of the column commands

entry_cycle : (e : Entry) (o : Owner) (r : Option Request) → Some e ≡ option_map (λ q. entry o.cycle (column_of o.auto q)) r → e.cycle ≡ o.cycle
entry_cycle e o None is = cc
entry_cycle e o (Some r) is = let same : e ≡ entry o.cycle (column_of o.auto r) = cc in ap (λ (f : Entry). f.cycle) same

head_same : {X : Type 0} (x y : X) (xs ys : List X) → x ∷ xs ≡ y ∷ ys → x ≡ y
head_same x y xs ys is = cc

tail_same : {X : Type 0} (x y : X) (xs ys : List X) → x ∷ xs ≡ y ∷ ys → xs ≡ ys
tail_same x y xs ys is = cc

cycles_same : (accepted : List Request) (entries : List Entry) (owners : List Owner) → map Some entries ≡ map (owned_entry accepted) owners → map (λ e. e.cycle) entries ≡ cycles owners
cycles_same accepted [] [] is = refl
cycles_same accepted [] (o ∷ os) is = cc
cycles_same accepted (e ∷ es) [] is = cc
cycles_same accepted (e ∷ es) (o ∷ os) is =
    let first = entry_cycle e o (slice_get accepted o.place) (head_same (Some e) (owned_entry accepted o) (map Some es) (map (owned_entry accepted) os) is) in
    let rest = cycles_same accepted es os (tail_same (Some e) (owned_entry accepted o) (map Some es) (map (owned_entry accepted) os) is) in
    ap (λ c. c ∷ map (λ f. f.cycle) es) first ∙ ap (λ (cs : List ℕ). o.cycle ∷ cs) rest

pub owners_apart : (accepted : List Request) (trace : List Entry) (owners : List Owner) → map Some (filter (λ e. is_column e.command) trace) ≡ map (owned_entry accepted) owners → AreColumnsApart trace → AreApart (cycles owners)
owners_apart accepted trace owners commands apart = subst AreApart (cycles_same accepted _ owners commands) (apart_in_trace trace apart)

-- some of the owners

all_narrower : (x : ℕ) (test : Owner → Bool) (owners : List Owner) → AllByRecursion (λ y. x + 4 ≤ y) (cycles owners) → AllByRecursion (λ y. x + 4 ≤ y) (cycles (filter test owners))
all_narrower x test [] all = tt
all_narrower x test (o ∷ os) all = by_test (test o) (all_narrower x test os all.1)
  where
    by_test : (w : Bool) → AllByRecursion (λ y. x + 4 ≤ y) (cycles (filter test os)) → AllByRecursion (λ y. x + 4 ≤ y) (cycles (cond w (o ∷ filter test os) (filter test os)))
    by_test true rest = (all.0, rest)
    by_test false rest = rest

pub apart_narrower : (test : Owner → Bool) (owners : List Owner) → AreApart (cycles owners) → AreApart (cycles (filter test owners))
apart_narrower test [] apart = tt
apart_narrower test (o ∷ os) apart = by_test (test o) (apart_narrower test os apart.1)
  where
    by_test : (w : Bool) → AreApart (cycles (filter test os)) → AreApart (cycles (cond w (o ∷ filter test os) (filter test os)))
    by_test true rest = (all_narrower o.cycle test os apart.0, rest)
    by_test false rest = rest

-- four clocks for each but the last

abbrev pub IsWithin : ℕ → ℕ → Owner → Type 0
IsWithin from to o = (from ≤ o.cycle) × (o.cycle < to)

within_behind : (x from to : ℕ) (owners : List Owner) → AllByRecursion (λ y. x + 4 ≤ y) (cycles owners) → AllByRecursion (IsWithin from to) owners → AllByRecursion (IsWithin (x + 4) to) owners
within_behind x from to [] far all = tt
within_behind x from to (o ∷ os) far all = ((far.0, all.0.1), within_behind x from to os far.1 all.1)

pub span_counts : (from to : ℕ) (owners : List Owner) → from ≤ to + 3 → AreApart (cycles owners) → AllByRecursion (IsWithin from to) owners → from + 4 * length owners ≤ to + 3
span_counts from to [] short apart all = omega arith
span_counts from to (o ∷ os) short apart all =
    let rest = span_counts (o.cycle + 4) to os (omega arith) apart.1 (within_behind o.cycle from to os apart.0 all.1) in
    omega arith
