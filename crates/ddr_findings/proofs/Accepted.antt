-- There is no fault exactly where nothing refuses the text.
use Rattle.std.proofs.Common.{◌≡◌, ℕ, ◌+◌, Bool, true, false, ◌&&◌, ◌||◌, not, cond, List, [], ◌∷◌, ◌++◌, map, get_or, Option, Some, None, option_map, refl, sym, ap, ◌∙◌}
use Rattle.std.specs.Prelude.{find, position, is_none}
use Rattle.std.specs.List.{filter_map, cons_option, list_all}
use Rattle.std.specs.Option.{option_map_or}
use Rattle.std.proofs.lemmas.Bool.{false≢true}
use Rattle.std.proofs.lemmas.Option.{none-some}
use Rattle.toml.specs.Data.{Data, Members, no_members, member}
use Rattle.ddr_timing.specs.declared.error.ConfigError.{ConfigError}
use Rattle.ddr_timing.specs.declared.key.Key.{Key}
use Rattle.ddr_timing.specs.declared.key.Key.TheVariants.{Low, High, Writes, Cl, Cwl, Rp, Ras, RrdS, RrdL, CcdS, CcdL, Wr, Rtp, Rtw, Rfc, Refi}
use Rattle.ddr_timing.specs.Keys.{has_key, keys}
use Rattle.ddr_timing.specs.Refusals.{broken_relation, first_of, has_other, has_unknown, is_key, is_missing, is_no_power, is_out_of_range, not_power_of_two, out_of_range, refusal_of, relations, table_refusal}
use Rattle.ddr_timing.specs.Tables.{keys_of, number_of, value_of, version_of}
use Rattle.ddr_timing.proofs.Ranges.{passes}
use Rattle.ddr_findings.specs.declared.fault.ConfigFault.{ConfigFault}
use Rattle.ddr_findings.specs.declared.relation.Relation.{Relation}
use Rattle.ddr_findings.specs.declared.takes.Takes.{Takes}
use Rattle.ddr_findings.specs.Faults.{Told, faults_of, key_fault, missing, name_fault, names_of, no_power, range, related, told}
use Rattle.ddr_findings.specs.Relations.{told_relations}
use Rattle.ddr_findings.specs.Shown.{shown}
use Rattle.ddr_findings.specs.Sound.{are_sound}
use Rattle.ddr_findings.specs.Takes.{takes_of}

-- ---- lists

nil_parts : {X : Type 0} (xs ys : List X) → xs ++ ys ≡ [] → (xs ≡ []) × (ys ≡ [])
nil_parts [] ys e = (refl, e)
nil_parts (x ∷ xs) ys e = absurd (cc)

cons_nil : {X : Type 0} (o : Option X) (rest : List X) → cons_option o rest ≡ [] → (o ≡ None) × (rest ≡ [])
cons_nil None rest e = (refl, e)
cons_nil (Some x) rest e = absurd (cc)

-- what a filter finds nothing of, no test passes that it follows
filter_find : {X Y : Type 0} (h : X → Option Y) (test : X → Bool) → ((x : X) → h x ≡ None → test x ≡ false) → (xs : List X) → filter_map h xs ≡ [] → find test xs ≡ None
filter_find h test follows [] e = refl
filter_find h test follows (x ∷ xs) e =
    let (none, rest) = cons_nil (h x) (filter_map h xs) e in
    rw (follows x none) (filter_find h test follows xs rest)

first_not : {X : Type 0} (found : Bool) (x : X) (rest : Option X) → cond found (Some x) rest ≡ None → (found ≡ false) × (rest ≡ None)
first_not true x rest none = absurd (none-some x (sym none))
first_not false x rest none = (refl, none)

find_filter : {X Y : Type 0} (h : X → Option Y) (p q r : X → Bool) → ((x : X) → p x ≡ false → q x ≡ false → r x ≡ false → h x ≡ None) → (xs : List X) → find p xs ≡ None → find q xs ≡ None → find r xs ≡ None → filter_map h xs ≡ []
find_filter h p q r follows [] a b c = refl
find_filter h p q r follows (x ∷ xs) a b c =
    let pa = first_not (p x) x (find p xs) a in
    let qb = first_not (q x) x (find q xs) b in
    let rc = first_not (r x) x (find r xs) c in
    rw (follows x pa.0 qb.0 rc.0) (find_filter h p q r follows xs pa.1 qb.1 rc.1)

-- ---- keys

record NoFault (missing out power : Bool) : Type 0 where
  there : missing ≡ false
  ranged : out ≡ false
  powers : power ≡ false

by_value : (given : Data → List ℕ) (takes : Takes) (key : Key) (n : ℕ) (out power : Bool) (value : Option Data) → option_map_or (λ v. cond out (Some (range key (given v) takes)) (cond power (Some (no_power key n)) None)) value (Some (missing key)) ≡ None → NoFault (is_none value) out power
by_value given takes key n out power None e = absurd (none-some (missing key) (sym e))
by_value given takes key n true power (Some v) e = absurd (none-some (range key (given v) takes) (sym e))
by_value given takes key n false true (Some v) e = absurd (none-some (no_power key n) (sym e))
by_value given takes key n false false (Some v) e = record { there = refl; ranged = refl; powers = refl }

no_fault : (table : Members) (key : Key) → key_fault table key ≡ None → NoFault (is_missing table key) (is_out_of_range table key) (is_no_power table key)
unfolding key_fault
no_fault table key e = by_value shown (takes_of (version_of table) key) key (number_of table key) (is_out_of_range table key) (is_no_power table key) (value_of table key) e

by_parts : (given : Data → List ℕ) (takes : Takes) (key : Key) (n : ℕ) (out power : Bool) (value : Option Data) → is_none value ≡ false → out ≡ false → power ≡ false → option_map_or (λ v. cond out (Some (range key (given v) takes)) (cond power (Some (no_power key n)) None)) value (Some (missing key)) ≡ None
by_parts given takes key n out power None there ranged powers = absurd (false≢true (sym there))
by_parts given takes key n out power (Some v) there ranged powers = rw (ranged, powers) refl

fault_none : (table : Members) (key : Key) → is_missing table key ≡ false → is_out_of_range table key ≡ false → is_no_power table key ≡ false → key_fault table key ≡ None
unfolding key_fault
fault_none table key there ranged powers = by_parts shown (takes_of (version_of table) key) key (number_of table key) (is_out_of_range table key) (is_no_power table key) (value_of table key) there ranged powers

-- ---- names

by_test : (known second : Bool) (one other : Told) → cond known None (cond second (Some one) (Some other)) ≡ None → known ≡ true
by_test true second one other e = refl
by_test false true one other e = absurd (none-some one (sym e))
by_test false false one other e = absurd (none-some other (sym e))

known_name : (table : Members) (name : List ℕ) → name_fault table name ≡ None → is_key (keys_of table) name ≡ true
unfolding name_fault
known_name table name e = by_test (is_key (keys_of table) name) (is_key (keys 2) name) _ _ e

name_none : (table : Members) (name : List ℕ) → is_key (keys_of table) name ≡ true → name_fault table name ≡ None
unfolding name_fault
name_none table name e = rw e refl

names_known : (known : List Key) (h : List ℕ → Option Told) → ((name : List ℕ) → h name ≡ None → is_key known name ≡ true) → (table : Members) → filter_map h (names_of table) ≡ [] → has_other known table ≡ false
names_known known h follows no_members e = refl
names_known known h follows (member name value rest) e =
    let (none, more) = cons_nil (h name) (filter_map h (names_of rest)) e in
    rw (follows name none) (names_known known h follows rest more)

or_false : (a b : Bool) → (not a || b) ≡ false → (a ≡ true) × (b ≡ false)
or_false true b e = (refl, e)
or_false false b e = absurd (false≢true (sym e))

known_names : (known : List Key) (h : List ℕ → Option Told) → ((name : List ℕ) → is_key known name ≡ true → h name ≡ None) → (table : Members) → has_other known table ≡ false → filter_map h (names_of table) ≡ []
known_names known h follows no_members e = refl
known_names known h follows (member name value rest) e =
    let parts = or_false (is_key known name) (has_other known rest) e in
    rw (follows name parts.0) (known_names known h follows rest parts.1)

-- ---- relations

all_sound : (table : Members) → out_of_range table ≡ None → (few : List Key) → list_all (has_key (version_of table)) few ≡ true → are_sound table few ≡ true
all_sound table ranged [] e = refl
all_sound table ranged (key ∷ few) e =
    let parts = and_both (has_key (version_of table) key) (list_all (has_key (version_of table)) few) e in
    rw (parts.0, passes (version_of table) (is_out_of_range table) ranged key parts.0) (all_sound table ranged few parts.1)
  where
    and_both : (a b : Bool) → (a && b) ≡ true → (a ≡ true) × (b ≡ true)
    and_both true b e = (refl, e)
    and_both false b e = absurd (false≢true e)

holds_where : (sound holds : Bool) (relation : Relation) → sound ≡ true → option_map related (cond (sound && not holds) (Some relation) None) ≡ None → holds ≡ true
holds_where true true relation s e = refl
holds_where true false relation s e = absurd (none-some (related relation) (sym e))
holds_where false holds relation s e = absurd (false≢true s)

none_where : (sound holds : Bool) (relation : Relation) → holds ≡ true → option_map related (cond (sound && not holds) (Some relation) None) ≡ None
none_where true holds relation h = rw h refl
none_where false holds relation h = refl

-- what is told of seven relations, each of which is sound
seven_hold : (s1 s2 s3 s4 s5 s6 s7 h1 h2 h3 h4 h5 h6 h7 : Bool) (r1 r2 r3 r4 r5 r6 r7 : Relation)
    → s1 ≡ true → s2 ≡ true → s3 ≡ true → s4 ≡ true → s5 ≡ true → s6 ≡ true → s7 ≡ true
    → filter_map (option_map related) (cond (s1 && not h1) (Some r1) None ∷ cond (s2 && not h2) (Some r2) None ∷ cond (s3 && not h3) (Some r3) None ∷ cond (s4 && not h4) (Some r4) None ∷ cond (s5 && not h5) (Some r5) None ∷ cond (s6 && not h6) (Some r6) None ∷ cond (s7 && not h7) (Some r7) None ∷ []) ≡ []
    → option_map (λ place. place + 1) (position not (h1 ∷ h2 ∷ h3 ∷ h4 ∷ h5 ∷ h6 ∷ h7 ∷ [])) ≡ None
seven_hold s1 s2 s3 s4 s5 s6 s7 h1 h2 h3 h4 h5 h6 h7 r1 r2 r3 r4 r5 r6 r7 t1 t2 t3 t4 t5 t6 t7 e =
    let p1 = cons_nil _ _ e in
    let p2 = cons_nil _ _ p1.1 in
    let p3 = cons_nil _ _ p2.1 in
    let p4 = cons_nil _ _ p3.1 in
    let p5 = cons_nil _ _ p4.1 in
    let p6 = cons_nil _ _ p5.1 in
    let p7 = cons_nil _ _ p6.1 in
    rw (holds_where s1 h1 r1 t1 p1.0, holds_where s2 h2 r2 t2 p2.0, holds_where s3 h3 r3 t3 p3.0, holds_where s4 h4 r4 t4 p4.0, holds_where s5 h5 r5 t5 p5.0, holds_where s6 h6 r6 t6 p6.0, holds_where s7 h7 r7 t7 p7.0) refl

map_none : {X Y : Type 0} (f : X → Y) (o : Option X) → option_map f o ≡ None → o ≡ None
map_none f None e = refl
map_none f (Some x) e = absurd (none-some (f x) (sym e))

record SevenHold (h1 h2 h3 h4 h5 h6 h7 : Bool) : Type 0 where
  r1 : h1 ≡ true
  r2 : h2 ≡ true
  r3 : h3 ≡ true
  r4 : h4 ≡ true
  r5 : h5 ≡ true
  r6 : h6 ≡ true
  r7 : h7 ≡ true

seven_from_none : (h1 h2 h3 h4 h5 h6 h7 : Bool) → option_map (λ place. place + 1) (position not (h1 ∷ h2 ∷ h3 ∷ h4 ∷ h5 ∷ h6 ∷ h7 ∷ [])) ≡ None → SevenHold h1 h2 h3 h4 h5 h6 h7
seven_from_none false h2 h3 h4 h5 h6 h7 e = absurd (none-some 1 (sym e))
seven_from_none true false h3 h4 h5 h6 h7 e = absurd (none-some 2 (sym e))
seven_from_none true true false h4 h5 h6 h7 e = absurd (none-some 3 (sym e))
seven_from_none true true true false h5 h6 h7 e = absurd (none-some 4 (sym e))
seven_from_none true true true true false h6 h7 e = absurd (none-some 5 (sym e))
seven_from_none true true true true true false h7 e = absurd (none-some 6 (sym e))
seven_from_none true true true true true true false e = absurd (none-some 7 (sym e))
seven_from_none true true true true true true true e = record { r1 = refl; r2 = refl; r3 = refl; r4 = refl; r5 = refl; r6 = refl; r7 = refl }

hold_seven : (s1 s2 s3 s4 s5 s6 s7 h1 h2 h3 h4 h5 h6 h7 : Bool) (r1 r2 r3 r4 r5 r6 r7 : Relation)
    → option_map (λ place. place + 1) (position not (h1 ∷ h2 ∷ h3 ∷ h4 ∷ h5 ∷ h6 ∷ h7 ∷ [])) ≡ None
    → filter_map (option_map related) (cond (s1 && not h1) (Some r1) None ∷ cond (s2 && not h2) (Some r2) None ∷ cond (s3 && not h3) (Some r3) None ∷ cond (s4 && not h4) (Some r4) None ∷ cond (s5 && not h5) (Some r5) None ∷ cond (s6 && not h6) (Some r6) None ∷ cond (s7 && not h7) (Some r7) None ∷ []) ≡ []
hold_seven s1 s2 s3 s4 s5 s6 s7 h1 h2 h3 h4 h5 h6 h7 r1 r2 r3 r4 r5 r6 r7 e =
    let p = seven_from_none h1 h2 h3 h4 h5 h6 h7 e in
    rw (none_where s1 h1 r1 p.r1, none_where s2 h2 r2 p.r2, none_where s3 h3 r3 p.r3, none_where s4 h4 r4 p.r4, none_where s5 h5 r5 p.r5, none_where s6 h6 r6 p.r6, none_where s7 h7 r7 p.r7) refl

-- the keys that each relation speaks of
abbrev k1 : List Key
k1 = CcdS ∷ []

abbrev k2 : List Key
k2 = CcdL ∷ CcdS ∷ []

abbrev k3 : List Key
k3 = RrdL ∷ RrdS ∷ []

abbrev k4 : List Key
k4 = Cl ∷ Cwl ∷ Rtw ∷ []

abbrev k5 : List Key
k5 = Ras ∷ Cwl ∷ Wr ∷ Rtp ∷ Rp ∷ Rfc ∷ Refi ∷ []

abbrev k6 : List Key
k6 = Low ∷ High ∷ []

abbrev k7 : List Key
k7 = High ∷ Writes ∷ []

relations_hold : (table : Members) → out_of_range table ≡ None → filter_map (option_map related) (told_relations table) ≡ [] → broken_relation table ≡ None
relations_hold table ranged e =
    seven_hold (are_sound table k1) (are_sound table k2) (are_sound table k3) (are_sound table k4) (are_sound table k5) (are_sound table k6) (are_sound table k7)
    (get_or (relations table) 0 true) (get_or (relations table) 1 true) (get_or (relations table) 2 true) (get_or (relations table) 3 true) (get_or (relations table) 4 true) (get_or (relations table) 5 true) (get_or (relations table) 6 true)
    _ _ _ _ _ _ _
    (all_sound table ranged k1 refl) (all_sound table ranged k2 refl) (all_sound table ranged k3 refl) (all_sound table ranged k4 refl) (all_sound table ranged k5 refl) (all_sound table ranged k6 refl) (all_sound table ranged k7 refl) e

none_broken : (table : Members) → broken_relation table ≡ None → filter_map (option_map related) (told_relations table) ≡ []
none_broken table e =
    hold_seven (are_sound table k1) (are_sound table k2) (are_sound table k3) (are_sound table k4) (are_sound table k5) (are_sound table k6) (are_sound table k7)
    (get_or (relations table) 0 true) (get_or (relations table) 1 true) (get_or (relations table) 2 true) (get_or (relations table) 3 true) (get_or (relations table) 4 true) (get_or (relations table) 5 true) (get_or (relations table) 6 true)
    _ _ _ _ _ _ _ e

-- ---- the whole

first_none : (o : Option ConfigError) (more : List (Option ConfigError)) → first_of (o ∷ more) ≡ None → (o ≡ None) × (first_of more ≡ None)
first_none None more e = (refl, e)
first_none (Some refusal) more e = absurd (none-some refusal (sym e))

accepted_table : (table : Members) → faults_of (Some table) ≡ [] → table_refusal table ≡ None
unfolding faults_of table_refusal
accepted_table table e =
    let p1 = nil_parts _ _ e in
    let p2 = nil_parts _ _ p1.1 in
    let there : find (is_missing table) (keys_of table) ≡ None = filter_find (key_fault table) (is_missing table) (λ key none. (no_fault table key none).there) (keys_of table) p1.0 in
    let ranged : out_of_range table ≡ None = filter_find (key_fault table) (is_out_of_range table) (λ key none. (no_fault table key none).ranged) (keys_of table) p1.0 in
    let powers : not_power_of_two table ≡ None = filter_find (key_fault table) (is_no_power table) (λ key none. (no_fault table key none).powers) (keys_of table) p1.0 in
    let known : has_unknown table ≡ false = names_known (keys_of table) (name_fault table) (known_name table) table p2.0 in
    let holds : broken_relation table ≡ None = relations_hold table ranged p2.1 in
    rw (there, known, ranged, powers, holds) refl

unknown_false : (unknown : Bool) (refusal : ConfigError) → cond unknown (Some refusal) None ≡ None → unknown ≡ false
unknown_false true refusal e = absurd (none-some refusal (sym e))
unknown_false false refusal e = refl

table_accepted : (table : Members) → table_refusal table ≡ None → faults_of (Some table) ≡ []
unfolding faults_of table_refusal
table_accepted table e =
    let p1 = first_none _ _ e in
    let p2 = first_none _ _ p1.1 in
    let p3 = first_none _ _ p2.1 in
    let p4 = first_none _ _ p3.1 in
    let p5 = first_none _ _ p4.1 in
    let there : find (is_missing table) (keys_of table) ≡ None = map_none _ _ p1.0 in
    let known : has_unknown table ≡ false = unknown_false _ _ p2.0 in
    let ranged : out_of_range table ≡ None = map_none _ _ p3.0 in
    let powers : not_power_of_two table ≡ None = map_none _ _ p4.0 in
    let holds : broken_relation table ≡ None = map_none _ _ p5.0 in
    let a : filter_map (key_fault table) (keys_of table) ≡ [] = find_filter (key_fault table) (is_missing table) (is_out_of_range table) (is_no_power table) (fault_none table) (keys_of table) there ranged powers in
    let b : filter_map (name_fault table) (names_of table) ≡ [] = known_names (keys_of table) (name_fault table) (name_none table) table known in
    let c : filter_map (option_map related) (told_relations table) ≡ [] = none_broken table holds in
    rw (a, b, c) refl

map_nil : {X Y : Type 0} (f : X → Y) (xs : List X) → map f xs ≡ [] → xs ≡ []
map_nil f [] e = refl
map_nil f (x ∷ xs) e = absurd (cc)

-- what is told of a table is nothing exactly where nothing refuses the table
pub accepted : (parsed : Option Members) (table : Members) (faults : List ConfigFault) → parsed ≡ Some table → map told faults ≡ faults_of (Some table) → (faults ≡ [] → refusal_of parsed ≡ None) × (refusal_of parsed ≡ None → faults ≡ [])
accepted parsed table faults is said = (
  λ none. rw is (accepted_table table (sym said ∙ ap (map told) none)),
  λ none. map_nil told faults (said ∙ table_accepted table (rw is at none)),
)
