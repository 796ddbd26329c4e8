-- What was found so far is given up for nothing that allows sooner, and whatever a rule on distances asks for was found.
use Rattle.std.proofs.Common.{◌≡◌, ℕ, ◌+◌, ◌-◌, ◌*◌, ◌<◌, ◌≤◌, ◌^◌, Bool, true, false, ◌&&◌, ◌||◌, List, [], ◌∷◌, length, Option, Some, None, refl, sym, ap, subst, ◌∙◌, ◌⊎◌, inl, inr, arith}
use Rattle.std.specs.Prelude.{nat_lt, nat_le, max, if◌then◌else◌}
use Rattle.std.specs.List.{fold, list_any, range_with_len}
use Rattle.std.proofs.lemmas.Bool.{cond-true, cond-false, cases_Bool}
use Rattle.std.proofs.lemmas.Bool.Decides.{nat_tests}
use Rattle.ddr_timing.specs.declared.config.Config.{Config}
use Rattle.ddr_timing.specs.declared.timing.Timing.{Timing}
use Rattle.ddr_timing.specs.declared.units.TheConstants.{GROUP_BANKS}
use Rattle.ddr_trace.specs.declared.bank.OpenBank.{OpenBank}
use Rattle.ddr_trace.specs.declared.command.Command.{Command}
use Rattle.ddr_trace.specs.declared.command.Command.TheVariants.{Act, Rd, Wr, RdAuto, WrAuto, Pre, PreAll, Refresh}
use Rattle.ddr_trace.specs.declared.command.Entry.{Entry}
use Rattle.ddr_trace.specs.declared.rule.Rule.{Rule}
use Rattle.ddr_trace.specs.declared.rule.Rule.TheVariants as rule
use Rattle.ddr_trace.specs.declared.rule.TheConstants.Rule.{ALL}
use Rattle.ddr_trace.specs.Banks.{any_bank, bank_behind, is_auto_within, is_before_start, recovery}
use Rattle.ddr_trace.specs.Commands.{entry, is_activate, is_refresh, rank_of}
use Rattle.ddr_trace.specs.Rules.{is_too_close, some_earlier, spacing_of}
use Rattle.ddr_draw.specs.declared.held.Held.{Held}
use Rattle.ddr_draw.specs.declared.held.TheConstants.{MOST_BACK}
use Rattle.ddr_draw.specs.Held.{allowed, asks, auto_place, bank_at, held_by, later_of, least_of, recent, start_of, wait, wait_at, wait_closing, wait_from, wait_of_bank, wait_of_rank, wait_of_starts, wait_open, wait_under}
use Rattle.ddr_draw.specs.Names.{after}
use Rattle.ddr_draw.specs.Waits.{AllowsLast, IsAllowed, breaks_distance}

le_true : (m n : ℕ) → nat_le m n ≡ true → m ≤ n
le_true m n h = grind (arith, nat_tests)

le_false : (m n : ℕ) → nat_le m n ≡ false → n < m
le_false m n h = grind (arith, nat_tests)

-- cycles below the last that 64 bits hold agree on what comes later
not_before : (cycle start clocks : ℕ) → cycle < 2 ^ 64 - 1 → after start clocks ≤ cycle → nat_lt cycle (start + clocks) ≡ false
not_before cycle start clocks below allowed = grind (arith, nat_tests)

not_before_start : (cycle a b c d clocks : ℕ) → cycle < 2 ^ 64 - 1 → after (max (after a b) (after c d)) clocks ≤ cycle → nat_lt cycle (max (a + b) (c + d) + clocks) ≡ false
not_before_start cycle a b c d clocks below allowed = grind (arith, nat_tests)

or_false : (a b : Bool) → a ≡ false → b ≡ false → (a || b) ≡ false
or_false false b ha hb = hb
or_false true b ha hb = absurd cc

or_false_right : (a : Bool) → (a || false) ≡ a
or_false_right true = refl
or_false_right false = refl

pub or_left : (a b : Bool) → a ≡ true → (a || b) ≡ true
or_left true b h = refl
or_left false b h = absurd cc

pub or_right : (a b : Bool) → b ≡ true → (a || b) ≡ true
or_right true b h = refl
or_right false b h = h

pub and_true : (a b : Bool) → a ≡ true → b ≡ true → (a && b) ≡ true
and_true true b ha hb = hb
and_true false b ha hb = absurd cc

no_activate : (command : Command) → is_refresh command ≡ true → is_activate command ≡ false
no_activate (Refresh rank) h = refl
no_activate (Act rank group bank row) h = absurd cc
no_activate (Rd rank group bank row line) h = absurd cc
no_activate (Wr rank group bank row line) h = absurd cc
no_activate (RdAuto rank group bank row line) h = absurd cc
no_activate (WrAuto rank group bank row line) h = absurd cc
no_activate (Pre rank group bank) h = absurd cc
no_activate (PreAll rank) h = absurd cc

and_false : (a b : Bool) → (a ≡ true → b ≡ false) → (a && b) ≡ false
and_false false b h = refl
and_false true b h = h refl

-- each rule is one of all
abbrev IsIn : Rule → List Rule → Type 0
IsIn r [] = ⊥
IsIn r (x ∷ xs) = (x ≡ r) ⊎ IsIn r xs

is_in_all : (r : Rule) → IsIn r ALL
is_in_all rule.Order = inl refl
is_in_all rule.Place = inr (inl refl)
is_in_all rule.State = inr (inr (inl refl))
is_in_all rule.Row = inr (inr (inr (inl refl)))
is_in_all rule.Rcd = inr (inr (inr (inr (inl refl))))
is_in_all rule.Ras = inr (inr (inr (inr (inr (inl refl)))))
is_in_all rule.Rc = inr (inr (inr (inr (inr (inr (inl refl))))))
is_in_all rule.Rp = inr (inr (inr (inr (inr (inr (inr (inl refl)))))))
is_in_all rule.RrdL = inr (inr (inr (inr (inr (inr (inr (inr (inl refl))))))))
is_in_all rule.RrdS = inr (inr (inr (inr (inr (inr (inr (inr (inr (inl refl)))))))))
is_in_all rule.Faw = inr (inr (inr (inr (inr (inr (inr (inr (inr (inr (inl refl))))))))))
is_in_all rule.CcdL = inr (inr (inr (inr (inr (inr (inr (inr (inr (inr (inr (inl refl)))))))))))
is_in_all rule.CcdS = inr (inr (inr (inr (inr (inr (inr (inr (inr (inr (inr (inr (inl refl))))))))))))
is_in_all rule.WtrL = inr (inr (inr (inr (inr (inr (inr (inr (inr (inr (inr (inr (inr (inl refl)))))))))))))
is_in_all rule.WtrS = inr (inr (inr (inr (inr (inr (inr (inr (inr (inr (inr (inr (inr (inr (inl refl))))))))))))))
is_in_all rule.Rtp = inr (inr (inr (inr (inr (inr (inr (inr (inr (inr (inr (inr (inr (inr (inr (inl refl)))))))))))))))
is_in_all rule.Wr = inr (inr (inr (inr (inr (inr (inr (inr (inr (inr (inr (inr (inr (inr (inr (inr (inl refl))))))))))))))))
is_in_all rule.Rtw = inr (inr (inr (inr (inr (inr (inr (inr (inr (inr (inr (inr (inr (inr (inr (inr (inr (inl refl)))))))))))))))))
is_in_all rule.RpRef = inr (inr (inr (inr (inr (inr (inr (inr (inr (inr (inr (inr (inr (inr (inr (inr (inr (inr (inl refl))))))))))))))))))
is_in_all rule.Rfc = inr (inr (inr (inr (inr (inr (inr (inr (inr (inr (inr (inr (inr (inr (inr (inr (inr (inr (inr (inl refl)))))))))))))))))))
is_in_all rule.RefLate = inr (inr (inr (inr (inr (inr (inr (inr (inr (inr (inr (inr (inr (inr (inr (inr (inr (inr (inr (inr (inl refl))))))))))))))))))))
is_in_all rule.RefGap = inr (inr (inr (inr (inr (inr (inr (inr (inr (inr (inr (inr (inr (inr (inr (inr (inr (inr (inr (inr (inr (inl refl)))))))))))))))))))))
is_in_all rule.Rtrs = inr (inr (inr (inr (inr (inr (inr (inr (inr (inr (inr (inr (inr (inr (inr (inr (inr (inr (inr (inr (inr (inr (inl refl))))))))))))))))))))))

-- a test that asks nothing of what stands between
any_earlier : (p : Entry → Bool) (xs : List Entry) → list_any p xs ≡ some_earlier (λ a between. p a) xs
any_earlier p [] = refl
any_earlier p (a ∷ xs) = ap (λ b. p a || b) (any_earlier p xs)

module _ (cycle : ℕ) where
  -- what is found later allows no sooner
  later_back : (best : Option Held) (h : Held) → IsAllowed (later_of best h) cycle → IsAllowed best cycle
  later_back None h found = tt
  later_back (Some best) h found =
      elim (cases_Bool (nat_le (allowed best) (allowed h))) [
        | inl later ↦
            let le = le_true (allowed best) (allowed h) later in
            let is : IsAllowed (Some h) cycle = subst (λ o. IsAllowed o cycle) (cond-true _ _ _ later) found in
            omega (arith, le, is)
        | inr sooner ↦ subst (λ o. IsAllowed o cycle) (cond-false _ _ _ sooner) found
      ]

  later_here : (best : Option Held) (h : Held) → IsAllowed (later_of best h) cycle → allowed h ≤ cycle
  later_here None h found = found
  later_here (Some best) h found =
      elim (cases_Bool (nat_le (allowed best) (allowed h))) [
        | inl later ↦ subst (λ o. IsAllowed o cycle) (cond-true _ _ _ later) found
        | inr sooner ↦
            let lt = le_false (allowed best) (allowed h) sooner in
            let is : IsAllowed (Some best) cycle = subst (λ o. IsAllowed o cycle) (cond-false _ _ _ sooner) found in
            omega (arith, lt, is)
      ]

  module _ (t : Timing) (e : Entry) where
    under_back : (place : ℕ) (a : Entry) (between : List Entry) (best : Option Held) (r : Rule) → IsAllowed (wait_under t e place a between best r) cycle → IsAllowed best cycle
    under_back place a between best r found =
        elim (cases_Bool (asks t r a.command e.command between)) [
          | inl on ↦ later_back best (wait r place a a.cycle (least_of t r a.command e.command)) (subst (λ o. IsAllowed o cycle) (cond-true _ _ _ on) found)
          | inr off ↦ subst (λ o. IsAllowed o cycle) (cond-false _ _ _ off) found
        ]

    under_here : (place : ℕ) (a : Entry) (between : List Entry) (best : Option Held) (r : Rule) → IsAllowed (wait_under t e place a between best r) cycle
        → asks t r a.command e.command between ≡ true → after a.cycle (least_of t r a.command e.command) ≤ cycle
    under_here place a between best r found on =
        later_here best (wait r place a a.cycle (least_of t r a.command e.command)) (subst (λ o. IsAllowed o cycle) (cond-true _ _ _ on) found)

    at_back : (place : ℕ) (a : Entry) (between : List Entry) (best : Option Held) (rules : List Rule) → IsAllowed (wait_at t e place a between best rules) cycle → IsAllowed best cycle
    at_back place a between best [] found = found
    at_back place a between best (r ∷ rules) found =
        under_back place a between best r (at_back place a between (wait_under t e place a between best r) rules found)

    at_here : (place : ℕ) (a : Entry) (between : List Entry) (best : Option Held) (rules : List Rule) (r : Rule) → IsIn r rules → IsAllowed (wait_at t e place a between best rules) cycle
        → asks t r a.command e.command between ≡ true → after a.cycle (least_of t r a.command e.command) ≤ cycle
    at_here place a between best [] r is found on = absurd is
    at_here place a between best (x ∷ rules) r (inl here) found on =
        under_here place a between best r
        (subst (λ y. IsAllowed (wait_under t e place a between best y) cycle) here (at_back place a between (wait_under t e place a between best x) rules found)) on
    at_here place a between best (x ∷ rules) r (inr there) found on =
        at_here place a between (wait_under t e place a between best x) rules r there found on

    from_back : (place : ℕ) (best : Option Held) (later : List Entry) → IsAllowed (wait_from t e place best later) cycle → IsAllowed best cycle
    from_back place best [] found = found
    from_back place best (a ∷ later) found =
        at_back place a later best ALL (from_back (place + 1) (wait_at t e place a later best ALL) later found)

    -- the rule asks for a distance from an earlier entry, and the command in the cycle stands closer
    abbrev pub is_asked_closer : Rule → Entry → List Entry → Bool
    is_asked_closer r a between = asks t r a.command e.command between && nat_lt cycle (a.cycle + least_of t r a.command e.command)

    none_closer : cycle < 2 ^ 64 - 1 → (r : Rule) → IsIn r ALL → (place : ℕ) (best : Option Held) (entries : List Entry) → IsAllowed (wait_from t e place best entries) cycle
        → some_earlier (is_asked_closer r) entries ≡ false
    none_closer below r is place best [] found = refl
    none_closer below r is place best (a ∷ later) found =
        let here = from_back (place + 1) (wait_at t e place a later best ALL) later found in
        or_false (is_asked_closer r a later) (some_earlier (is_asked_closer r) later)
        (and_false (asks t r a.command e.command later) (nat_lt cycle (a.cycle + least_of t r a.command e.command))
        (λ on. not_before cycle a.cycle (least_of t r a.command e.command) below (at_here place a later best ALL r is here on)))
        (none_closer below r is (place + 1) (wait_at t e place a later best ALL) later found)

  -- ---- from the start of an auto-precharge on

  closing_back : (t : Timing) (r : Rule) (place : ℕ) (bank : OpenBank) (auto : Option Entry) (best : Option Held) → IsAllowed (wait_closing t r place bank auto best) cycle → IsAllowed best cycle
  closing_back t r place bank None best found = found
  closing_back t r place bank (Some auto) best found = later_back best (wait r place auto (start_of t bank auto) t.rp) found

  closing_here : cycle < 2 ^ 64 - 1 → (t : Timing) (r : Rule) (place : ℕ) (bank : OpenBank) (auto : Option Entry) (best : Option Held) → IsAllowed (wait_closing t r place bank auto best) cycle
      → is_before_start t t.rp cycle bank auto ≡ false
  closing_here below t r place bank None best found = refl
  closing_here below t r place bank (Some auto) best found =
      not_before_start cycle auto.cycle (recovery t auto.command) bank.since t.ras t.rp below
      (later_here best (wait r place auto (start_of t bank auto) t.rp) found)

  open_back : (t : Timing) (r : Rule) (place : ℕ) (bank : Option OpenBank) (best : Option Held) → IsAllowed (wait_open t r place bank best) cycle → IsAllowed best cycle
  open_back t r place None best found = found
  open_back t r place (Some bank) best found = closing_back t r place bank bank.auto best found

  open_here : cycle < 2 ^ 64 - 1 → (t : Timing) (r : Rule) (place : ℕ) (bank : Option OpenBank) (best : Option Held) → IsAllowed (wait_open t r place bank best) cycle
      → is_auto_within t t.rp cycle bank ≡ false
  open_here below t r place None best found = refl
  open_here below t r place (Some bank) best found = closing_here below t r place bank bank.auto best found

  bank_back : (t : Timing) (r : Rule) (first : ℕ) (entries : List Entry) (bank : Command) (best : Option Held) → IsAllowed (wait_of_bank t r first entries bank best) cycle → IsAllowed best cycle
  unfolding wait_of_bank
  bank_back t r first entries bank best found = open_back t r (auto_place bank first first entries) (bank_behind bank entries) best found

  bank_here : cycle < 2 ^ 64 - 1 → (t : Timing) (r : Rule) (first : ℕ) (entries : List Entry) (bank : Command) (best : Option Held) → IsAllowed (wait_of_bank t r first entries bank best) cycle
      → is_auto_within t t.rp cycle (bank_behind bank entries) ≡ false
  unfolding wait_of_bank
  bank_here below t r first entries bank best found = open_here below t r (auto_place bank first first entries) (bank_behind bank entries) best found

  -- of the banks of these numbers
  module _ (t : Timing) (first : ℕ) (entries : List Entry) (rank : ℕ) where
    abbrev asked : Option Held → ℕ → Option Held
    asked found n = wait_of_bank t rule.RpRef first entries (bank_at rank n) found

    banks_back : (numbers : List ℕ) (best : Option Held) → IsAllowed (fold asked best numbers) cycle → IsAllowed best cycle
    banks_back [] best found = found
    banks_back (n ∷ numbers) best found = bank_back t rule.RpRef first entries (bank_at rank n) best (banks_back numbers (asked best n) found)

    banks_here : cycle < 2 ^ 64 - 1 → (numbers : List ℕ) (best : Option Held) → IsAllowed (fold asked best numbers) cycle
        → list_any (λ n. is_auto_within t t.rp cycle (bank_behind (bank_at rank n) entries)) numbers ≡ false
    banks_here below [] best found = refl
    banks_here below (n ∷ numbers) best found =
        or_false (is_auto_within t t.rp cycle (bank_behind (bank_at rank n) entries)) _
        (bank_here below t rule.RpRef first entries (bank_at rank n) best (banks_back numbers (asked best n) found))
        (banks_here below numbers (asked best n) found)

  rank_back : (c : Config) (first : ℕ) (entries : List Entry) (rank : ℕ) (best : Option Held) → IsAllowed (wait_of_rank c first entries rank best) cycle → IsAllowed best cycle
  unfolding wait_of_rank
  rank_back c first entries rank best found = banks_back c.timing first entries rank (range_with_len 0 (c.geometry.groups * GROUP_BANKS)) best found

  rank_here : cycle < 2 ^ 64 - 1 → (c : Config) (first : ℕ) (entries : List Entry) (rank : ℕ) (best : Option Held) → IsAllowed (wait_of_rank c first entries rank best) cycle
      → any_bank c.geometry rank (λ bank. is_auto_within c.timing c.timing.rp cycle (bank_behind bank entries)) ≡ false
  unfolding wait_of_rank
  rank_here below c first entries rank best found = banks_here c.timing first entries rank below (range_with_len 0 (c.geometry.groups * GROUP_BANKS)) best found

  -- of a command
  module _ (c : Config) (first : ℕ) (entries : List Entry) (command : Command) (best : Option Held) where
    abbrev wait_of_refresh : Option Held
    wait_of_refresh = if is_refresh command then wait_of_rank c first entries (rank_of command) best else best

    starts_back : IsAllowed (wait_of_starts c first entries command best) cycle → IsAllowed best cycle
    starts_back found =
        elim (cases_Bool (is_activate command)) [
          | inl act ↦ bank_back c.timing rule.Rp first entries command best (subst (λ o. IsAllowed o cycle) (cond-true _ _ _ act) found)
          | inr no_act ↦
              let rest : IsAllowed wait_of_refresh cycle = subst (λ o. IsAllowed o cycle) (cond-false _ _ _ no_act) found in
              elim (cases_Bool (is_refresh command)) [
                | inl ref ↦ rank_back c first entries (rank_of command) best (subst (λ o. IsAllowed o cycle) (cond-true _ _ _ ref) rest)
                | inr no_ref ↦ subst (λ o. IsAllowed o cycle) (cond-false _ _ _ no_ref) rest
              ]
        ]

    act_here : cycle < 2 ^ 64 - 1 → IsAllowed (wait_of_starts c first entries command best) cycle
        → (is_activate command && is_auto_within c.timing c.timing.rp cycle (bank_behind command entries)) ≡ false
    act_here below found =
        and_false (is_activate command) _
        (λ act. bank_here below c.timing rule.Rp first entries command best (subst (λ o. IsAllowed o cycle) (cond-true _ _ _ act) found))

    refresh_here : cycle < 2 ^ 64 - 1 → IsAllowed (wait_of_starts c first entries command best) cycle
        → (is_refresh command && any_bank c.geometry (rank_of command) (λ bank. is_auto_within c.timing c.timing.rp cycle (bank_behind bank entries))) ≡ false
    refresh_here below found =
        and_false (is_refresh command) _
        (λ ref. rank_here below c first entries (rank_of command) best
        (subst (λ o. IsAllowed o cycle) (cond-false _ _ _ (no_activate command ref) ∙ cond-true _ _ _ ref) found))

-- ---- the rules on distances

-- what of a rule is said by the start of an auto-precharge
abbrev pub is_behind_start : Config → ℕ → List Entry → Command → Rule → Bool
is_behind_start c cycle entries command rule.Rp = is_activate command && is_auto_within c.timing c.timing.rp cycle (bank_behind command entries)
is_behind_start c cycle entries command rule.RpRef =
    is_refresh command && any_bank c.geometry (rank_of command) (λ bank. is_auto_within c.timing c.timing.rp cycle (bank_behind bank entries))
is_behind_start c cycle entries command _ = false

-- an earlier command that the rule on two commands finds too close
abbrev any_closer_of : Config → ℕ → Entry → Rule → Entry → Bool
any_closer_of c cycle e r a = is_too_close (spacing_of c.timing r) a (entry cycle e.command)

any_closer : (c : Config) (cycle : ℕ) (e : Entry) (entries : List Entry) (r : Rule) → list_any (any_closer_of c cycle e r) entries ≡ some_earlier (λ a between. any_closer_of c cycle e r a) entries
any_closer c cycle e entries r = any_earlier (any_closer_of c cycle e r) entries

-- and what by earlier commands
pub parts : (c : Config) (cycle : ℕ) (e : Entry) (entries : List Entry) (r : Rule) → breaks_distance c r entries (entry cycle e.command)
    ≡ (some_earlier (is_asked_closer cycle c.timing e r) entries || is_behind_start c cycle entries e.command r)
parts c cycle e entries rule.Order = any_closer c cycle e entries rule.Order ∙ sym (or_false_right _)
parts c cycle e entries rule.Place = any_closer c cycle e entries rule.Place ∙ sym (or_false_right _)
parts c cycle e entries rule.State = any_closer c cycle e entries rule.State ∙ sym (or_false_right _)
parts c cycle e entries rule.Row = any_closer c cycle e entries rule.Row ∙ sym (or_false_right _)
parts c cycle e entries rule.Rcd = any_closer c cycle e entries rule.Rcd ∙ sym (or_false_right _)
parts c cycle e entries rule.Ras = any_closer c cycle e entries rule.Ras ∙ sym (or_false_right _)
parts c cycle e entries rule.Rc = any_closer c cycle e entries rule.Rc ∙ sym (or_false_right _)
parts c cycle e entries rule.Rp = ap (λ b. b || is_behind_start c cycle entries e.command rule.Rp) (any_closer c cycle e entries rule.Rp)
parts c cycle e entries rule.RrdL = any_closer c cycle e entries rule.RrdL ∙ sym (or_false_right _)
parts c cycle e entries rule.RrdS = any_closer c cycle e entries rule.RrdS ∙ sym (or_false_right _)
parts c cycle e entries rule.Faw = sym (or_false_right _)
parts c cycle e entries rule.CcdL = any_closer c cycle e entries rule.CcdL ∙ sym (or_false_right _)
parts c cycle e entries rule.CcdS = any_closer c cycle e entries rule.CcdS ∙ sym (or_false_right _)
parts c cycle e entries rule.WtrL = any_closer c cycle e entries rule.WtrL ∙ sym (or_false_right _)
parts c cycle e entries rule.WtrS = any_closer c cycle e entries rule.WtrS ∙ sym (or_false_right _)
parts c cycle e entries rule.Rtp = any_closer c cycle e entries rule.Rtp ∙ sym (or_false_right _)
parts c cycle e entries rule.Wr = any_closer c cycle e entries rule.Wr ∙ sym (or_false_right _)
parts c cycle e entries rule.Rtw = any_closer c cycle e entries rule.Rtw ∙ sym (or_false_right _)
parts c cycle e entries rule.RpRef = ap (λ b. b || is_behind_start c cycle entries e.command rule.RpRef) (any_closer c cycle e entries rule.RpRef)
parts c cycle e entries rule.Rfc = any_closer c cycle e entries rule.Rfc ∙ sym (or_false_right _)
parts c cycle e entries rule.RefLate = any_closer c cycle e entries rule.RefLate ∙ sym (or_false_right _)
parts c cycle e entries rule.RefGap = any_closer c cycle e entries rule.RefGap ∙ sym (or_false_right _)
parts c cycle e entries rule.Rtrs = any_earlier _ entries ∙ sym (or_false_right _)

no_start : (c : Config) (cycle first : ℕ) (entries : List Entry) (command : Command) (best : Option Held) → cycle < 2 ^ 64 - 1 → IsAllowed (wait_of_starts c first entries command best) cycle
    → (r : Rule) → is_behind_start c cycle entries command r ≡ false
no_start c cycle first entries command best below found rule.Rp = act_here cycle c first entries command best below found
no_start c cycle first entries command best below found rule.RpRef = refresh_here cycle c first entries command best below found
no_start c cycle first entries command best below found rule.Order = refl
no_start c cycle first entries command best below found rule.Place = refl
no_start c cycle first entries command best below found rule.State = refl
no_start c cycle first entries command best below found rule.Row = refl
no_start c cycle first entries command best below found rule.Rcd = refl
no_start c cycle first entries command best below found rule.Ras = refl
no_start c cycle first entries command best below found rule.Rc = refl
no_start c cycle first entries command best below found rule.RrdL = refl
no_start c cycle first entries command best below found rule.RrdS = refl
no_start c cycle first entries command best below found rule.Faw = refl
no_start c cycle first entries command best below found rule.CcdL = refl
no_start c cycle first entries command best below found rule.CcdS = refl
no_start c cycle first entries command best below found rule.WtrL = refl
no_start c cycle first entries command best below found rule.WtrS = refl
no_start c cycle first entries command best below found rule.Rtp = refl
no_start c cycle first entries command best below found rule.Wr = refl
no_start c cycle first entries command best below found rule.Rtw = refl
no_start c cycle first entries command best below found rule.Rfc = refl
no_start c cycle first entries command best below found rule.RefLate = refl
no_start c cycle first entries command best below found rule.RefGap = refl
no_start c cycle first entries command best below found rule.Rtrs = refl

pub allows_last : (c : Config) (history : List Entry) (e : Entry) → AllowsLast c history e
unfolding held_by
allows_last c history e cycle below found r =
    let first = length history - MOST_BACK in
    let pairs = wait_from c.timing e first None (recent history) in
    parts c cycle e (recent history) r
    ∙ or_false (some_earlier (is_asked_closer cycle c.timing e r) (recent history)) (is_behind_start c cycle (recent history) e.command r)
    (none_closer cycle c.timing e below r (is_in_all r) first None (recent history) (starts_back cycle c first (recent history) e.command pairs found))
    (no_start c cycle first (recent history) e.command pairs below found r)
