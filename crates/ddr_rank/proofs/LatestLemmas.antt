-- The last command of a kind: told from the last ones of other kinds, and after one more command.
use Rattle.std.proofs.Common.{◌≡◌, ◌≢◌, ◌⊎◌, ℕ, zero, suc, ◌+◌, ◌<◌, ◌≤◌, max, Bool, true, false, ◌&&◌, ◌||◌, nat_lt, if◌then◌else◌, List, [], ◌∷◌, ◌++◌, Option, Some, None, inl, inr, refl, sym, ap, arith, ◌∙◌}
use Rattle.std.specs.List.{AllByRecursion, list_any}
use Rattle.std.proofs.lemmas.Bool.{cases_lt}
use Rattle.std.proofs.Math.Bool.{or-true}
use Rattle.std.proofs.lemmas.Bool.Decides.{nat_tests}
use Rattle.ddr_timing.specs.declared.geometry.Geometry.{Geometry}
use Rattle.ddr_trace.specs.declared.command.Command.{Command}
use Rattle.ddr_trace.specs.declared.command.Entry.{Entry}
use Rattle.ddr_trace.specs.Rules.{Spacing, breaks_spacing, is_in, speaks_of}
use Rattle.ddr_rank.specs.Latest.{is_within, later, latest, latest_among}
use Rattle.ddr_trace.specs.Commands.{entry}

later_none : (a : Option ℕ) → later a None ≡ a
later_none None = refl
later_none (Some a) = refl

later_assoc : (a b c : Option ℕ) → later a (later b c) ≡ later (later a b) c
later_assoc None b c = refl
later_assoc (Some a) None c = refl
later_assoc (Some a) (Some b) None = refl
later_assoc (Some a) (Some b) (Some c) = ap Some (omega arith)

-- the last command that passes one test or the other
both_pass : (c : ℕ) (s t : Option ℕ) → later (Some c) (later s t) ≡ later (later (Some c) s) (later (Some c) t)
both_pass c None None = ap Some (omega arith)
both_pass c None (Some t) = ap Some (omega arith)
both_pass c (Some s) None = ap Some (omega arith)
both_pass c (Some s) (Some t) = ap Some (omega arith)

second_passes : (c : ℕ) (s t : Option ℕ) → later (Some c) (later s t) ≡ later s (later (Some c) t)
second_passes c None t = refl
second_passes c (Some s) None = ap Some (omega arith)
second_passes c (Some s) (Some t) = ap Some (omega arith)

one_passes : (x y : Bool) (c : ℕ) (s t : Option ℕ) → later (if x || y then Some c else None) (later s t) ≡ later (later (if x then Some c else None) s) (later (if y then Some c else None) t)
one_passes true true c s t = both_pass c s t
one_passes true false c s t = later_assoc (Some c) s t
one_passes false true c s t = second_passes c s t
one_passes false false c s t = refl

pub latest-or : (p q : Command → Bool) (history : List Entry) → latest (λ a. p a || q a) history ≡ later (latest p history) (latest q history)
latest-or p q [] = refl
latest-or p q (a ∷ history) =
    ap (λ t. later (if p a.command || q a.command then Some a.cycle else None) t) (latest-or p q history)
    ∙ one_passes (p a.command) (q a.command) a.cycle (latest p history) (latest q history)

-- no command passes
pub latest-none : (p : Command → Bool) (history : List Entry) → ((c : Command) → p c ≡ false) → latest p history ≡ None
latest-none p [] fails = refl
latest-none p (a ∷ history) fails = rw (fails a.command, latest-none p history fails)

-- tests that agree
pub latest-same : (p q : Command → Bool) (history : List Entry) → ((c : Command) → p c ≡ q c) → latest p history ≡ latest q history
latest-same p q [] same = refl
latest-same p q (a ∷ history) same = rw (same a.command, latest-same p q history same)

-- tests that agree on commands in the geometry
pub latest-alike : (g : Geometry) (p q : Command → Bool) (history : List Entry) → AllByRecursion (λ e. is_in g e.command ≡ true) history → ((c : Command) → is_in g c ≡ true → p c ≡ q c) → latest p history ≡ latest q history
latest-alike g p q [] placed same = refl
latest-alike g p q (a ∷ history) placed same =
    rw (same a.command placed.0, latest-alike g p q history placed.1 same)

-- the latest of several last commands
abbrev pub any_below : (ℕ → Bool) → ℕ → Bool
any_below p zero = false
any_below p (suc n) = any_below p n || p n

pub latest_among-latest : (f : ℕ → Option ℕ) (test : ℕ → Command → Bool) (history : List Entry) (n : ℕ) → ((i : ℕ) → i < n → f i ≡ latest (test i) history) → latest_among f n ≡ latest (λ a. any_below (λ i. test i a) n) history
latest_among-latest f test history zero kept = sym (latest-none (λ _. false) history (λ _. refl))
latest_among-latest f test history (suc n) kept =
    let below : (i : ℕ) → i < n → f i ≡ latest (test i) history = λ i h. kept i (omega arith) in
    rw (kept n (omega arith), latest_among-latest f test history n below)
    (sym (latest-or (λ a. any_below (λ i. test i a) n) (test n) history))

pub or_false : (b : Bool) → (b || false) ≡ b
or_false true = refl
or_false false = refl

pub any_below-none : (p : ℕ → Bool) (n : ℕ) → ((i : ℕ) → i < n → p i ≡ false) → any_below p n ≡ false
any_below-none p zero fails = refl
any_below-none p (suc n) fails =
    let below : (i : ℕ) → i < n → p i ≡ false = λ i h. fails i (omega arith) in
    rw (fails n (omega arith), any_below-none p n below) refl

pub any_below-some : (p : ℕ → Bool) (n j : ℕ) → j < n → p j ≡ true → any_below p n ≡ true
any_below-some p zero j within passes = absurd (omega arith)
any_below-some p (suc n) j within passes = by_place (cases_lt j n) (any_below-some p n j)
  where
    by_place : (j < n) ⊎ (n ≤ j) → (j < n → p j ≡ true → any_below p n ≡ true) → (any_below p n || p n) ≡ true
    by_place (inl below) rest = rw (rest below passes) refl
    by_place (inr above) rest =
        let same : n ≡ j = omega arith in
        rw (same, passes) (or-true (any_below p j))

-- at most one place passes
pub any_below-one : (p : ℕ → Bool) (n j : ℕ) → j < n → ((i : ℕ) → i ≢ j → p i ≡ false) → any_below p n ≡ p j
any_below-one p zero j within others = absurd (omega arith)
any_below-one p (suc n) j within others = by_place (cases_lt j n) (any_below-one p n j)
  where
    by_place : (j < n) ⊎ (n ≤ j) → (j < n → ((i : ℕ) → i ≢ j → p i ≡ false) → any_below p n ≡ p j) → (any_below p n || p n) ≡ p j
    by_place (inl below) rest =
        let apart : n ≢ j = omega arith in
        rw (rest below others, others n apart) (or_false (p j))
    by_place (inr above) rest =
        let same : n ≡ j = omega arith in
        let none : any_below p j ≡ false = any_below-none p j (λ i h. others i (omega arith)) in
        rw (same, none) refl

-- too close behind some command is too close behind the last
within-later : (d y : ℕ) (a b : Option ℕ) → is_within d y (later a b) ≡ (is_within d y a || is_within d y b)
within-later d y None b = refl
within-later d y (Some a) None = sym (or_false (nat_lt y (a + d)))
within-later d y (Some a) (Some b) = max_within d y a b
  where
    max_within : (d y a b : ℕ) → nat_lt y (max a b + d) ≡ (nat_lt y (a + d) || nat_lt y (b + d))
    max_within d y a b = grind (arith, nat_tests)

pub any_within : (p : Command → Bool) (d y : ℕ) (history : List Entry) → list_any (λ a. p a.command && nat_lt y (a.cycle + d)) history ≡ is_within d y (latest p history)
any_within p d y [] = refl
any_within p d y (a ∷ history) =
    ap (λ t. (p a.command && nat_lt y (a.cycle + d)) || t) (any_within p d y history)
    ∙ sym (within-later d y (if p a.command then Some a.cycle else None) (latest p history) ∙ ap (λ t. t || is_within d y (latest p history)) (here (p a.command) a.cycle))
  where
    here : (x : Bool) (c : ℕ) → is_within d y (if x then Some c else None) ≡ (x && nat_lt y (c + d))
    here true c = refl
    here false c = refl

-- a rule on two commands, told by the last one that it pairs with the next
pub told : (s : Spacing) (history : List Entry) (cycle : ℕ) (c : Command) (last : Option ℕ) → last ≡ latest (λ a. speaks_of s a c) history → is_within s.at_least cycle last ≡ breaks_spacing s history (entry cycle c)
told s history cycle c last same =
    ap (λ o. is_within s.at_least cycle o) same ∙ sym (any_within (λ a. speaks_of s a c) s.at_least cycle history)

pub untold : (s : Spacing) (history : List Entry) (cycle : ℕ) (c : Command) → s.later c ≡ false → false ≡ breaks_spacing s history (entry cycle c)
untold s history cycle c none =
    told s history cycle c None (sym (latest-none _ history (λ a. rw none (no_pair (s.earlier a) (s.pairs a c)))))
  where
    no_pair : (x y : Bool) → ((x && false) && y) ≡ false
    no_pair true y = refl
    no_pair false y = refl

-- one more command, later than all
pub latest-append : (p : Command → Bool) (history : List Entry) (e : Entry) → AllByRecursion (λ a. a.cycle < e.cycle) history → latest p (history ++ e ∷ []) ≡ (if p e.command then Some e.cycle else latest p history)
latest-append p [] e below = later_none (if p e.command then Some e.cycle else None)
latest-append p (a ∷ history) e below =
    ap (λ t. later (if p a.command then Some a.cycle else None) t) (latest-append p history e below.1)
    ∙ newest (p a.command) (p e.command) a.cycle e.cycle (latest p history) below.0
  where
    newest : (x y : Bool) (a e : ℕ) (t : Option ℕ) → a < e → later (if x then Some a else None) (if y then Some e else t) ≡ (if y then Some e else later (if x then Some a else None) t)
    newest true true a e t h = ap Some (omega arith)
    newest false true a e t h = refl
    newest x false a e t h = refl
