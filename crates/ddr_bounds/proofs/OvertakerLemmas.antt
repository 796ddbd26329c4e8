-- Each call keeps the bound on overtakers.
use Rattle.std.proofs.Common.{◌≡◌, ℕ, zero, suc, ◌+◌, ◌-◌, ◌*◌, ◌/◌, ◌<◌, ◌≤◌, Bool, true, false, cond, eqb, ltb, leb, List, [], ◌∷◌, ◌++◌, All, Contains, Option, Some, None, map, length, get_or, refl, sym, ap, subst, ◌∙◌, inl, inr, arith}
use Rattle.std.specs.List.{AllByRecursion, AllPairs, filter, list_any, slice_get, range_with_len, fold}
use Rattle.std.specs.Option.{option_map}
use Rattle.std.proofs.lemmas.Bool.{cases_Bool, cases_lt, eq-eqb, eqb-true, ltb-true, true≢false, false≢true}
use Rattle.std.proofs.lemmas.Bool.Decides.{nat_tests}
use Rattle.std.proofs.lemmas.List.FromFn.{length-range_with_len, get_or-range_with_len}
use Rattle.std.proofs.lemmas.List.Elements.{Contains-append_cases}
use Rattle.std.proofs.lemmas.List.Sorted.{Contains-permutation}
use Rattle.std.proofs.lemmas.Option.{slice_get_within, slice_get-get_or, get_or_from_slice_get}
use Rattle.ddr_timing.specs.declared.config.Config.{Config}
use Rattle.ddr_timing.specs.declared.units.TheConstants.{CLOCK_STOP}
use Rattle.ddr_trace.specs.declared.command.Command.{Command}
use Rattle.ddr_address_map.specs.Requests.{Request}
use Rattle.ddr_hazards.specs.declared.waiting.Waiting.{Waiting}
use Rattle.ddr_arbiter.specs.declared.choice.Choice.{Choice}
use Rattle.ddr_arbiter.specs.declared.choice.Choice.TheVariants as choice
use Rattle.ddr_arbiter.specs.Choice.{is_oldest_capped}
use Rattle.ddr_arbiter.specs.Commands.{column_of}
use Rattle.ddr_arbiter.specs.Laws.{command_of, IsLawful}
use Rattle.ddr_arbiter.proofs.LawLemmas.{choice_lawful}
use Rattle.ddr_channel.specs.Choice.{situation_of, choice_of}
use Rattle.ddr_channel.specs.Cycle.{at_choice, recorded, served, served_at, issued, ticked, after_cycle}
use Rattle.ddr_channel.specs.History.{Call, Admit, Cycle, Pop, Owner, History, begun, owned, with_owner, after_call, run}
use Rattle.ddr_channel.specs.Promise.{AreCalls}
use Rattle.ddr_channel.specs.State.{after_admit, is_queue_full}
use Rattle.ddr_channel.proofs.HistoryLemmas.{IsKept, kept_begun, kept_call, kept_run, owner_alike, waiting_length}
use Rattle.ddr_channel.proofs.ListLemmas.{slice_get-remove_before, slice_get-remove_behind, All-at, All-implies, All-last}
use Rattle.ddr_bounds.specs.Overtakers.{owners_before, overtakers, most_overtakers, HasFewOvertakers}
use Rattle.ddr_bounds.proofs.ApartLemmas.{AreApart, cycles, owners_apart, apart_narrower, IsWithin, span_counts}
use Rattle.ddr_bounds.proofs.ColumnLemmas.{columns_apart}
use Rattle.ddr_channel.proofs.PlaceLemmas.{at_place, pushed}

-- some column command is the request's
abbrev is_owner : ℕ → List Owner → Bool
is_owner place owners = list_any (λ o. eqb o.place place) owners

-- the column commands of later requests stand at ages below the cap
abbrev AreYoung : Config → Waiting → ℕ → List Owner → Type 0
AreYoung config w place owners = AllByRecursion (λ o. place < o.place → IsWithin w.admitted (w.admitted + config.limits.cap) o) owners

record IsOvertaken (h : History) : Type 0 where
  -- pending requests stand in the order of their admission cycles
  in_order : (i j : ℕ) (v w : Waiting) → i < j → slice_get h.state.pending i ≡ Some v → slice_get h.state.pending j ≡ Some w → v.admitted ≤ w.admitted
  young : (k place : ℕ) (w : Waiting) → slice_get h.waiting k ≡ Some place → slice_get h.state.pending k ≡ Some w → AreYoung h.state.config w place h.owners
  few : (place : ℕ) → is_owner place h.owners ≡ true → length (overtakers h place) ≤ most_overtakers h.state.config

-- the column commands before the first one of a request

before_none : (place : ℕ) (owners : List Owner) → is_owner place owners ≡ false → owners_before place owners ≡ owners
before_none place [] none = refl
before_none place (o ∷ os) none = by_test (eqb o.place place) refl (before_none place os)
  where
    by_test : (w : Bool) → eqb o.place place ≡ w → (is_owner place os ≡ false → owners_before place os ≡ os) → owners_before place (o ∷ os) ≡ o ∷ os
    by_test true is rest = absurd (true≢false (rw is at none))
    by_test false is rest = rw is (ap (λ (ps : List Owner). o ∷ ps) (rest (rw is at none)))

before_more : (place : ℕ) (owners : List Owner) (p : Owner) → is_owner place owners ≡ true → owners_before place (owners ++ p ∷ []) ≡ owners_before place owners
before_more place [] p some = absurd (false≢true some)
before_more place (o ∷ os) p some = by_test (eqb o.place place) refl (before_more place os p)
  where
    by_test : (w : Bool) → eqb o.place place ≡ w → (is_owner place os ≡ true → owners_before place (os ++ p ∷ []) ≡ owners_before place os) → owners_before place (o ∷ (os ++ p ∷ [])) ≡ owners_before place (o ∷ os)
    by_test true is rest = rw is refl
    by_test false is rest = rw is (ap (λ (ps : List Owner). o ∷ ps) (rest (rw is at some)))

before_last : (place : ℕ) (owners : List Owner) (p : Owner) → is_owner place owners ≡ false → p.place ≡ place → owners_before place (owners ++ p ∷ []) ≡ owners
before_last place [] p none same = rw (eq-eqb p.place place same) refl
before_last place (o ∷ os) p none same = by_test (eqb o.place place) refl (λ no_more. before_last place os p no_more same)
  where
    by_test : (w : Bool) → eqb o.place place ≡ w → (is_owner place os ≡ false → owners_before place (os ++ p ∷ []) ≡ os) → owners_before place (o ∷ (os ++ p ∷ [])) ≡ o ∷ os
    by_test true is rest = absurd (true≢false (rw is at none))
    by_test false is rest = rw is (ap (λ (ps : List Owner). o ∷ ps) (rest (rw is at none)))

owner_more : (place : ℕ) (owners : List Owner) (p : Owner) → is_owner place (owners ++ p ∷ []) ≡ true → is_owner place owners ≡ false → p.place ≡ place
owner_more place [] p some none = by_test (eqb p.place place) refl
  where
    by_test : (w : Bool) → eqb p.place place ≡ w → p.place ≡ place
    by_test true is = eqb-true p.place place is
    by_test false is = absurd (false≢true (rw is at some))
owner_more place (o ∷ os) p some none = by_test (eqb o.place place) refl (owner_more place os p)
  where
    by_test : (w : Bool) → eqb o.place place ≡ w → (is_owner place (os ++ p ∷ []) ≡ true → is_owner place os ≡ false → p.place ≡ place) → p.place ≡ place
    by_test true is rest = absurd (true≢false (rw is at none))
    by_test false is rest = rest (rw is at some) (rw is at none)

-- the young ones among the later ones are all of them
later_young : (config : Config) (w : Waiting) (place : ℕ) (owners : List Owner) → AreYoung config w place owners → AllByRecursion (IsWithin w.admitted (w.admitted + config.limits.cap)) (filter (λ o. ltb place o.place) owners)
later_young config w place [] young = tt
later_young config w place (o ∷ os) young = by_test (ltb place o.place) refl (later_young config w place os young.1)
  where
    by_test : (b : Bool) → ltb place o.place ≡ b → AllByRecursion (IsWithin w.admitted (w.admitted + config.limits.cap)) (filter (λ p. ltb place p.place) os) →
        AllByRecursion (IsWithin w.admitted (w.admitted + config.limits.cap)) (cond b (o ∷ filter (λ p. ltb place p.place) os) (filter (λ p. ltb place p.place) os))
    by_test true is rest = (young.0 (ltb-true place o.place is), rest)
    by_test false is rest = rest

quarter : (n cap : ℕ) → 4 * n ≤ cap + 3 → n ≤ (cap + 3) / 4
quarter n cap small = omega arith

-- so they are few
few_later : (config : Config) (w : Waiting) (place : ℕ) (owners : List Owner) → AreApart (cycles owners) → AreYoung config w place owners → length (filter (λ o. ltb place o.place) owners) ≤ most_overtakers config
few_later config w place owners apart young =
    let later = filter (λ (o : Owner). ltb place o.place) owners in
    let counted = span_counts w.admitted (w.admitted + config.limits.cap) later (omega arith) (apart_narrower (λ o. ltb place o.place) owners apart) (later_young config w place owners young) in
    quarter (length later) config.limits.cap (omega arith)

-- admission

admitted_in_order : (h : History) (r : Request) (i j : ℕ) (v w : Waiting) → All (λ (u : Waiting). u.admitted ≤ h.state.now) h.state.pending → IsOvertaken h → i < j →
    slice_get (after_admit r h.state).pending i ≡ Some v → slice_get (after_admit r h.state).pending j ≡ Some w → v.admitted ≤ w.admitted
admitted_in_order h r i j v w admitted o before first second = elim (pushed h.state.pending (record { request = r; admitted = h.state.now }) i v first) [
  | inl old ↦ elim (pushed h.state.pending (record { request = r; admitted = h.state.now }) j w second) [
    | inl both ↦ o.in_order i j v w before old.1 both.1
    | inr new ↦
        let early = All-at (λ (u : Waiting). u.admitted ≤ h.state.now) h.state.pending i v admitted old.1 in
        let now : h.state.now ≡ w.admitted = ap (λ (u : Waiting). u.admitted) new.1 in
        omega (arith, early, now)
  ]
  | inr last ↦ elim (pushed h.state.pending (record { request = r; admitted = h.state.now }) j w second) [
    | inl both ↦ absurd (omega (arith, before, both.0, last.0))
    | inr new ↦ absurd (omega (arith, before, new.0, last.0))
  ]
]

-- no column command is one of a request that comes after all that were accepted
none_later : (config : Config) (w : Waiting) (n : ℕ) (owners : List Owner) → AllByRecursion (λ o. o.place < n) owners → AreYoung config w n owners
none_later config w n owners placed = All-implies (λ (o : Owner). o.place < n) _ owners (λ o below later. absurd (omega arith)) placed

over_admit : (config : Config) (start : ℕ) (h : History) (r : Request) → IsKept config start h → IsOvertaken h →
    IsOvertaken (record h { state = after_admit r h.state; accepted = h.accepted ++ r ∷ []; waiting = h.waiting ++ length h.accepted ∷ [] })
over_admit config start h r kept o = record {
  in_order = λ i j v w. admitted_in_order h r i j v w kept.sound.admitted o;
  young = λ k place w number here. elim (pushed h.waiting (length h.accepted) k place number) [
    | inl old ↦ elim (pushed h.state.pending (record { request = r; admitted = h.state.now }) k w here) [
      | inl both ↦ o.young k place w old.1 both.1
      | inr new ↦ absurd (let same = waiting_length h.state.now h kept.keeps in omega (arith, old.0, new.0, same))
    ]
    | inr last ↦ subst (λ n. AreYoung h.state.config w n h.owners) last.1 (none_later h.state.config w (length h.accepted) h.owners kept.keeps.placed)
  ];
  few = o.few;
}

-- a cycle: a column command

-- what the cycle finds
record Finds (g : History) : Type 0 where
  lengths : length g.waiting ≡ length g.state.pending
  oldest_first : AllPairs ◌<◌ g.waiting
  admitted : All (λ (u : Waiting). u.admitted ≤ g.state.now) g.state.pending
  apart : AreApart (cycles g.owners)

-- a request that is older than the one served is younger than the cap
young_still : (now cap : ℕ) (first : Waiting) (pending : List Waiting) (k : ℕ) (v : Waiting) → (is_oldest_capped now cap pending ≡ true → ⊥) → slice_get pending 0 ≡ Some first → first.admitted ≤ v.admitted → now < v.admitted + cap
young_still now cap first pending k v not_capped here older = elim (cases_Bool (leb cap (now - first.admitted))) [
  | inl aged ↦ absurd (not_capped (rw (here, aged) refl))
  | inr young ↦ grind (arith, nat_tests)
]

older_young : (g : History) (place k : ℕ) (v : Waiting) → Finds g → IsOvertaken g → (is_oldest_capped g.state.now g.state.config.limits.cap g.state.pending ≡ true → place ≡ 0) → k < place → slice_get g.state.pending k ≡ Some v →
    (v.admitted ≤ g.state.now) × (g.state.now < v.admitted + g.state.config.limits.cap)
older_young g place k v f o capped before here =
    let within = slice_get_within g.state.pending k v here in
    let first = at_place g.state.pending 0 (omega arith) in
    let below = All-at (λ (u : Waiting). u.admitted ≤ g.state.now) g.state.pending k v f.admitted here in
    let older : first.0.admitted ≤ v.admitted = by_place k here first.0 first.1 in
    (below, young_still g.state.now g.state.config.limits.cap first.0 g.state.pending k v (λ is. omega (arith, before, capped is)) first.1 older)
  where
    by_place : (n : ℕ) → slice_get g.state.pending n ≡ Some v → (u : Waiting) → slice_get g.state.pending 0 ≡ Some u → u.admitted ≤ v.admitted
    by_place zero at u there = let same : Some u ≡ Some v = sym there ∙ at in let it : u ≡ v = cc in let both : u.admitted ≡ v.admitted = ap (λ (x : Waiting). x.admitted) it in omega arith
    by_place (suc n) at u there = o.in_order 0 (suc n) u v (omega arith) there at

over_column : (g : History) (auto : Bool) (place : ℕ) (w : Waiting) → Finds g → (is_oldest_capped g.state.now g.state.config.limits.cap g.state.pending ≡ true → place ≡ 0) → slice_get g.state.pending place ≡ Some w → IsOvertaken g →
    IsOvertaken (record (owned auto place g) { state = ticked (served place w.request (recorded (Some (column_of auto w.request)) g.state)) })
over_column g auto place w f capped here o = record {
  in_order = λ i j v u before first second. elim (cases_lt j place) [
    | inl below ↦ o.in_order i j v u before (sym (slice_get-remove_before g.state.pending place i (omega (arith, before, below))) ∙ first) (sym (slice_get-remove_before g.state.pending place j below) ∙ second)
    | inr above ↦ elim (cases_lt i place) [
      | inl low ↦ o.in_order i (suc j) v u (omega (arith, before)) (sym (slice_get-remove_before g.state.pending place i low) ∙ first) (sym (slice_get-remove_behind g.state.pending place j above) ∙ second)
      | inr high ↦ o.in_order (suc i) (suc j) v u (omega (arith, before)) (sym (slice_get-remove_behind g.state.pending place i high) ∙ first) (sym (slice_get-remove_behind g.state.pending place j above) ∙ second)
    ]
  ];
  young = λ k m v number there. elim (cases_lt k place) [
    | inl below ↦
        let old_number = sym (slice_get-remove_before g.waiting place k below) ∙ number in
        let old = sym (slice_get-remove_before g.state.pending place k below) ∙ there in
        All-last (λ (p : Owner). m < p.place → IsWithin v.admitted (v.admitted + g.state.config.limits.cap) p) g.owners owner (o.young k m v old_number old) (λ later. older_young g place k v f o capped below old)
    | inr above ↦
        let old_number = sym (slice_get-remove_behind g.waiting place k above) ∙ number in
        let old = sym (slice_get-remove_behind g.state.pending place k above) ∙ there in
        let later : get_or g.waiting place 0 < m = behind k m above old_number in
        All-last (λ (p : Owner). m < p.place → IsWithin v.admitted (v.admitted + g.state.config.limits.cap) p) g.owners owner (o.young (suc k) m v old_number old) (λ after. absurd (omega (arith, later, after)))
  ];
  few = λ m is. elim (cases_Bool (is_owner m g.owners)) [
    | inl already ↦ rw (before_more m g.owners owner already) (o.few m already)
    | inr not_yet ↦
        let same : owner.place ≡ m = owner_more m g.owners owner is not_yet in
        rw (before_last m g.owners owner not_yet same) (few_later g.state.config w m g.owners f.apart (o.young place m w (number_here ∙ ap Some same) here))
  ];
}
  where
    owner : Owner
    owner = record { place = get_or g.waiting place 0; cycle = g.state.now; auto = auto }

    number_here : slice_get g.waiting place ≡ Some (get_or g.waiting place 0)
    number_here = slice_get-get_or g.waiting place 0 (omega (arith, slice_get_within g.state.pending place w here, f.lengths))

    behind : (k m : ℕ) → place ≤ k → slice_get g.waiting (suc k) ≡ Some m → get_or g.waiting place 0 < m
    behind k m above is =
        let rising = f.oldest_first place (suc k) 0 (omega arith) (slice_get_within g.waiting (suc k) m is) in
        let it = get_or_from_slice_get g.waiting (suc k) m 0 is in
        omega arith

-- a cycle: the choice

over_recorded : (g : History) (c : Option Command) → IsOvertaken g → IsOvertaken (record g { state = ticked (recorded c g.state) })
over_recorded g None o = record { in_order = o.in_order; young = o.young; few = o.few }
over_recorded g (Some c) o = record { in_order = o.in_order; young = o.young; few = o.few }

over_column_of : (g : History) (auto : Bool) (place : ℕ) (w : Option Waiting) → Finds g → (is_oldest_capped g.state.now g.state.config.limits.cap g.state.pending ≡ true → place ≡ 0) → slice_get g.state.pending place ≡ w →
    place < length g.state.pending → IsOvertaken g →
    IsOvertaken (record (owned auto place g) { state = ticked (served_at place w (recorded (option_map (λ v. column_of auto v.request) w) g.state)) })
over_column_of g auto place None f capped here within o = absurd (let it = at_place g.state.pending place within in let none : Some it.0 ≡ None = sym it.1 ∙ here in cc)
over_column_of g auto place (Some w) f capped here within o = over_column g auto place w f capped here o

over_issued : (g : History) (c : Choice) → IsLawful (situation_of g.state) c → Finds g → IsOvertaken g → IsOvertaken (record (with_owner c g) { state = ticked (issued c g.state) })
over_issued g choice.Nothing law f o = over_recorded g None o
over_issued g (choice.Refresh rank) law f o = over_recorded g (command_of g.state.pending (choice.Refresh rank)) o
over_issued g (choice.PreAll rank) law f o = over_recorded g (command_of g.state.pending (choice.PreAll rank)) o
over_issued g (choice.Act place) law f o = over_recorded g _ o
over_issued g (choice.Pre place) law f o = over_recorded g _ o
over_issued g (choice.Column place) law f o = over_column_of g false place (slice_get g.state.pending place) f law.capped refl law.in_list o
over_issued g (choice.ColumnAuto place) law f o = over_column_of g true place (slice_get g.state.pending place) f law.capped refl law.in_list o

over_cycle : (config : Config) (start : ℕ) (h : History) → IsKept config start h → IsOvertaken h → IsOvertaken (record (with_owner (choice_of (at_choice h.state)) h) { state = after_cycle h.state })
over_cycle config start h kept o =
    let s = h.state in
    let g : History = record h { state = at_choice s } in
    let f : Finds g = record {
      lengths = waiting_length s.now h kept.keeps;
      oldest_first = kept.keeps.oldest_first;
      admitted = kept.sound.admitted;
      apart = owners_apart h.accepted s.trace h.owners kept.keeps.commands (columns_apart s.config s.start s.now s.trace kept.sound.legal);
    } in
    subst IsOvertaken (owner_alike (choice_of (at_choice s)) h (after_cycle s))
    (over_issued g (choice_of (at_choice s)) (choice_lawful (situation_of (at_choice s))) f (record { in_order = o.in_order; young = o.young; few = o.few }))

-- each call

over_if : (b : Bool) (old new : History) → IsOvertaken old → IsOvertaken new → IsOvertaken (cond b old new)
over_if true old new o n = o
over_if false old new o n = n

over_call : (config : Config) (start : ℕ) (h : History) (call : Call) → IsKept config start h → IsOvertaken h → IsOvertaken (after_call h call)
over_call config start h (Admit r) kept o = over_if (is_queue_full h.state r.echo.kind) h _ o (over_admit config start h r kept o)
over_call config start h Cycle kept o = over_if (eqb h.state.now CLOCK_STOP) h _ o (over_cycle config start h kept o)
over_call config start h Pop kept o = record { in_order = o.in_order; young = o.young; few = o.few }

over_from : (config : Config) (start : ℕ) (h : History) (calls : List Call) → AreCalls config calls → IsKept config start h → IsOvertaken h → IsOvertaken (fold after_call h calls)
over_from config start h [] may kept o = o
over_from config start h (call ∷ calls) may kept o = over_from config start (after_call h call) calls may.1 (kept_call config start h call may.0 kept) (over_call config start h call kept o)

over_begun : (config : Config) (start : ℕ) → IsOvertaken (begun config start)
over_begun config start = record {
  in_order = λ i j v w before first second. cc;
  young = λ k place w number here. tt;
  few = λ place some. absurd (false≢true some);
}

-- what the invariant says of each accepted request

owner_there : (place : ℕ) (owners : List Owner) → Contains (map (λ o. o.place) owners) place → is_owner place owners ≡ false → ⊥
owner_there place [] at none = omega (arith, at.1)
owner_there place (o ∷ os) (zero, within, is) none = true≢false (sym (rw (eq-eqb o.place place is) refl) ∙ none)
owner_there place (o ∷ os) (suc k, within, is) none = by_test (eqb o.place place) refl (owner_there place os (k, omega (arith, within), is))
  where
    by_test : (w : Bool) → eqb o.place place ≡ w → (is_owner place os ≡ false → ⊥) → ⊥
    by_test true e rest = true≢false (rw e at none)
    by_test false e rest = rest (rw e at none)

before_all : (P : Owner → Type 0) (place : ℕ) (owners : List Owner) → AllByRecursion P owners → AllByRecursion P (owners_before place owners)
before_all P place [] all = tt
before_all P place (o ∷ os) all = by_test (eqb o.place place) (before_all P place os all.1)
  where
    by_test : (w : Bool) → AllByRecursion P (owners_before place os) → AllByRecursion P (cond w [] (o ∷ owners_before place os))
    by_test true rest = tt
    by_test false rest = (all.0, rest)

few_of : (config : Config) (start : ℕ) (h : History) (place : ℕ) → IsKept config start h → IsOvertaken h → place < length h.accepted → length (overtakers h place) ≤ most_overtakers h.state.config
few_of config start h place kept o below = elim (cases_Bool (is_owner place h.owners)) [
  | inl some ↦ o.few place some
  | inr none ↦
      let n = length h.accepted in
      let it : get_or (range_with_len 0 n) place place ≡ place = omega (arith, get_or-range_with_len 0 n place place below) in
      let there = Contains-permutation (range_with_len 0 n) _ place kept.keeps.each_once (place, omega (arith, below, length-range_with_len 0 n), it) in
      elim (Contains-append_cases (map (λ o. o.place) h.owners) h.waiting place there) [
        | inl owned ↦ absurd (owner_there place h.owners owned none)
        | inr waits ↦
            let number : slice_get h.waiting waits.0 ≡ Some place = slice_get-get_or h.waiting waits.0 place waits.1 ∙ ap Some waits.2 in
            let w = at_place h.state.pending waits.0 (omega (arith, waits.1, waiting_length h.state.now h kept.keeps)) in
            let apart = owners_apart h.accepted h.state.trace h.owners kept.keeps.commands (columns_apart h.state.config h.state.start h.state.now h.state.trace kept.sound.legal) in
            rw (before_none place h.owners none) (few_later h.state.config w.0 place h.owners apart (o.young waits.0 place w.0 number w.1))
      ]
]

pub overtakers_of_run : (config : Config) (start : ℕ) (calls : List Call) → AreCalls config calls → HasFewOvertakers (run config start calls)
overtakers_of_run config start calls may =
    let h = run config start calls in
    let kept = kept_run config start calls may in
    let o = over_from config start (begun config start) calls may (kept_begun config start) (over_begun config start) in
    record {
      few = λ place below. few_of config start h place kept o below;
      young = λ k place w number here. later_young h.state.config w place (owners_before place h.owners) (before_all _ place h.owners (o.young k place w number here));
    }
