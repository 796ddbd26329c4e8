-- What is told to have held a command is a rule that the command breaks in each cycle before.
use Rattle.std.proofs.Common.{◌≡◌, ℕ, ◌+◌, ◌-◌, ◌*◌, ◌<◌, Bool, true, List, [], ◌∷◌, ◌++◌, length, Option, Some, None, refl, sym, ap, subst, ◌∙◌, append_assoc, inl, inr, arith}
use Rattle.std.specs.Prelude.{nat_lt, nat_le, max, IfSome}
use Rattle.std.specs.List.{fold, list_any, range_with_len}
use Rattle.std.proofs.lemmas.Bool.{cond-true, cond-false, cases_Bool}
use Rattle.std.proofs.lemmas.Bool.Decides.{nat_tests}
use Rattle.ddr_timing.specs.declared.config.Config.{Config}
use Rattle.ddr_timing.specs.declared.units.TheConstants.{GROUP_BANKS}
use Rattle.ddr_trace.specs.declared.bank.OpenBank.{OpenBank}
use Rattle.ddr_trace.specs.declared.command.Command.{Command}
use Rattle.ddr_trace.specs.declared.command.Entry.{Entry}
use Rattle.ddr_trace.specs.declared.rule.Rule.{Rule}
use Rattle.ddr_trace.specs.declared.rule.Rule.TheVariants as rule
use Rattle.ddr_trace.specs.declared.rule.TheConstants.Rule.{ALL}
use Rattle.ddr_trace.specs.Banks.{bank_behind, is_auto_within, is_before_start, recovery}
use Rattle.ddr_trace.specs.Commands.{entry, is_activate, is_refresh, rank_of}
use Rattle.ddr_trace.specs.Rules.{some_earlier}
use Rattle.ddr_draw.specs.declared.held.Held.{Held}
use Rattle.ddr_draw.specs.declared.held.TheConstants.{MOST_BACK}
use Rattle.ddr_draw.specs.Held.{allowed, asks, auto_place, bank_at, held_by, later_of, least_of, recent, start_of, wait, wait_at, wait_closing, wait_from, wait_of_bank, wait_of_rank, wait_of_starts, wait_open, wait_under}
use Rattle.ddr_draw.specs.Names.{after}
use Rattle.ddr_draw.specs.Waits.{ForbidsBefore, breaks_distance}
use Rattle.ddr_draw.proofs.WaitLemmas.{and_true, is_asked_closer, is_behind_start, or_left, or_right, parts}

before_allowed : (cycle start clocks : ℕ) → cycle < after start clocks → nat_lt cycle (start + clocks) ≡ true
before_allowed cycle start clocks h = grind (arith, nat_tests)

before_start : (cycle a b c d clocks : ℕ) → cycle < after (max (after a b) (after c d)) clocks → nat_lt cycle (max (a + b) (c + d) + clocks) ≡ true
before_start cycle a b c d clocks h = grind (arith, nat_tests)

-- one that passes is enough
some_at : (test : Entry → List Entry → Bool) (front : List Entry) (a : Entry) (later : List Entry) → test a later ≡ true → some_earlier test (front ++ a ∷ later) ≡ true
some_at test [] a later h = or_left (test a later) (some_earlier test later) h
some_at test (x ∷ front) a later h = or_right (test x (front ++ a ∷ later)) (some_earlier test (front ++ a ∷ later)) (some_at test front a later h)

any_at : (p : ℕ → Bool) (front : List ℕ) (n : ℕ) (later : List ℕ) → p n ≡ true → list_any p (front ++ n ∷ later) ≡ true
any_at p [] n later h = or_left (p n) (list_any p later) h
any_at p (x ∷ front) n later h = or_right (p x) (list_any p (front ++ n ∷ later)) (any_at p front n later h)

module _ (c : Config) (e : Entry) (entries : List Entry) where
  -- the rule is broken in each cycle before the one in which it allows the command
  abbrev Forbids : Held → Type 0
  Forbids h = (cycle : ℕ) → cycle < allowed h → breaks_distance c h.rule entries (entry cycle e.command) ≡ true

  abbrev IsTold : Option Held → Type 0
  IsTold None = Unit {0}
  IsTold (Some h) = Forbids h

  later_told : (best : Option Held) (h : Held) → IsTold best → Forbids h → IsTold (later_of best h)
  later_told None h told new = new
  later_told (Some best) h told new =
      elim (cases_Bool (nat_le (allowed best) (allowed h))) [
        | inl later ↦ subst IsTold (sym (cond-true _ _ _ later)) new
        | inr sooner ↦ subst IsTold (sym (cond-false _ _ _ sooner)) told
      ]

  -- ---- from an earlier command on

  pair_forbids : (place : ℕ) (front : List Entry) (a : Entry) (later : List Entry) (r : Rule) → entries ≡ front ++ a ∷ later → asks c.timing r a.command e.command later ≡ true
      → Forbids (wait r place a a.cycle (least_of c.timing r a.command e.command))
  pair_forbids place front a later r is on cycle before =
      let here = and_true (asks c.timing r a.command e.command later) (nat_lt cycle (a.cycle + least_of c.timing r a.command e.command)) on
      (before_allowed cycle a.cycle (least_of c.timing r a.command e.command) before) in
      let some = ap (some_earlier (is_asked_closer cycle c.timing e r)) is ∙ some_at (is_asked_closer cycle c.timing e r) front a later here in
      parts c cycle e entries r ∙ or_left (some_earlier (is_asked_closer cycle c.timing e r) entries) (is_behind_start c cycle entries e.command r) some

  under_told : (place : ℕ) (front : List Entry) (a : Entry) (later : List Entry) (best : Option Held) (r : Rule) → entries ≡ front ++ a ∷ later → IsTold best → IsTold (wait_under c.timing e place a later best r)
  under_told place front a later best r is told =
      elim (cases_Bool (asks c.timing r a.command e.command later)) [
        | inl on ↦
            subst IsTold (sym (cond-true _ _ _ on))
            (later_told best (wait r place a a.cycle (least_of c.timing r a.command e.command)) told (pair_forbids place front a later r is on))
        | inr off ↦ subst IsTold (sym (cond-false _ _ _ off)) told
      ]

  at_told : (place : ℕ) (front : List Entry) (a : Entry) (later : List Entry) (best : Option Held) (rules : List Rule) → entries ≡ front ++ a ∷ later → IsTold best → IsTold (wait_at c.timing e place a later best rules)
  at_told place front a later best [] is told = told
  at_told place front a later best (r ∷ rules) is told =
      at_told place front a later (wait_under c.timing e place a later best r) rules is (under_told place front a later best r is told)

  from_told : (place : ℕ) (front : List Entry) (best : Option Held) (rest : List Entry) → entries ≡ front ++ rest → IsTold best → IsTold (wait_from c.timing e place best rest)
  from_told place front best [] is told = told
  from_told place front best (a ∷ later) is told =
      from_told (place + 1) (front ++ a ∷ []) (wait_at c.timing e place a later best ALL) later (is ∙ sym (append_assoc front (a ∷ []) later))
      (at_told place front a later best ALL is told)

  -- ---- from the start of an auto-precharge on

  -- too close behind the start of that bank's auto-precharge the rule is broken
  abbrev BreaksBehind : Rule → Option OpenBank → Type 0
  BreaksBehind r bank = (cycle : ℕ) → is_auto_within c.timing c.timing.rp cycle bank ≡ true → breaks_distance c r entries (entry cycle e.command) ≡ true

  closing_told : (r : Rule) (place : ℕ) (bank : OpenBank) (auto : Option Entry) (best : Option Held)
      → ((cycle : ℕ) → is_before_start c.timing c.timing.rp cycle bank auto ≡ true → breaks_distance c r entries (entry cycle e.command) ≡ true)
      → IsTold best → IsTold (wait_closing c.timing r place bank auto best)
  closing_told r place bank None best breaks told = told
  closing_told r place bank (Some auto) best breaks told =
      later_told best (wait r place auto (start_of c.timing bank auto) c.timing.rp) told
      (λ cycle before. breaks cycle (before_start cycle auto.cycle (recovery c.timing auto.command) bank.since c.timing.ras c.timing.rp before))

  open_told : (r : Rule) (place : ℕ) (bank : Option OpenBank) (best : Option Held) → BreaksBehind r bank → IsTold best → IsTold (wait_open c.timing r place bank best)
  open_told r place None best breaks told = told
  open_told r place (Some bank) best breaks told = closing_told r place bank bank.auto best breaks told

  bank_told : (r : Rule) (first : ℕ) (bank : Command) (best : Option Held) → BreaksBehind r (bank_behind bank entries) → IsTold best → IsTold (wait_of_bank c.timing r first entries bank best)
  unfolding wait_of_bank
  bank_told r first bank best breaks told = open_told r (auto_place bank first first entries) (bank_behind bank entries) best breaks told

  module _ (ref : is_refresh e.command ≡ true) (first : ℕ) where
    abbrev asked : Option Held → ℕ → Option Held
    asked found n = wait_of_bank c.timing rule.RpRef first entries (bank_at (rank_of e.command) n) found

    banks_told : (front numbers : List ℕ) (best : Option Held) → range_with_len 0 (c.geometry.groups * GROUP_BANKS) ≡ front ++ numbers → IsTold best → IsTold (fold asked best numbers)
    banks_told front [] best is told = told
    banks_told front (n ∷ numbers) best is told =
        let within = λ (cycle : ℕ) (m : ℕ). is_auto_within c.timing c.timing.rp cycle (bank_behind (bank_at (rank_of e.command) m) entries) in
        let breaks : BreaksBehind rule.RpRef (bank_behind (bank_at (rank_of e.command) n) entries) =
        λ cycle h. parts c cycle e entries rule.RpRef ∙ or_right _ _ (and_true _ _ ref (ap (list_any (within cycle)) is ∙ any_at (within cycle) front n numbers h)) in
        banks_told (front ++ n ∷ []) numbers (asked best n) (is ∙ sym (append_assoc front (n ∷ []) numbers))
        (bank_told rule.RpRef first (bank_at (rank_of e.command) n) best breaks told)

  starts_told : (first : ℕ) (best : Option Held) → IsTold best → IsTold (wait_of_starts c first entries e.command best)
  unfolding wait_of_rank
  starts_told first best told =
      elim (cases_Bool (is_activate e.command)) [
        | inl act ↦
            subst IsTold (sym (cond-true _ _ _ act))
            (bank_told rule.Rp first e.command best (λ cycle h. parts c cycle e entries rule.Rp ∙ or_right _ _ (and_true _ _ act h)) told)
        | inr no_act ↦
            subst IsTold (sym (cond-false _ _ _ no_act))
            (elim (cases_Bool (is_refresh e.command)) [
              | inl ref ↦ subst IsTold (sym (cond-true _ _ _ ref)) (banks_told ref first [] (range_with_len 0 (c.geometry.groups * GROUP_BANKS)) best refl told)
              | inr no_ref ↦ subst IsTold (sym (cond-false _ _ _ no_ref)) told
            ])
      ]

-- what is told of an entry, if anything
if_told : (c : Config) (e : Entry) (entries : List Entry) (o : Option Held) → IsTold c e entries o
    → IfSome o (λ h. (cycle : ℕ) → cycle < allowed h → breaks_distance c h.rule entries (entry cycle e.command) ≡ true)
if_told c e entries None told = tt
if_told c e entries (Some h) told = told

pub forbids_before : (c : Config) (history : List Entry) (e : Entry) → ForbidsBefore c history e
unfolding held_by
forbids_before c history e =
    let first = length history - MOST_BACK in
    if_told c e (recent history) (held_by c history e)
    (starts_told c e (recent history) first (wait_from c.timing e first None (recent history))
    (from_told c e (recent history) first [] None (recent history) refl tt))
