-- The lowest rule that a command breaks: ORDER, then PLACE, then those on its rank, and then RTRS.
use Rattle.std.proofs.Common.{◌≡◌, ℕ, Bool, true, false, ◌&&◌, not, nat_lt, nat_le, if◌then◌else◌, List, [], ◌∷◌, ◌++◌, take, drop, Some, None, refl, sym, ap, ◌∙◌}
use Rattle.std.specs.List.{find, AllByRecursion}
use Rattle.std.proofs.lemmas.Bool.{and_parts, not-false}
use Rattle.ddr_timing.specs.declared.config.Config.{Config}
use Rattle.ddr_trace.specs.declared.command.Entry.{Entry}
use Rattle.ddr_trace.specs.declared.rule.Rule.{Rule}
use Rattle.ddr_trace.specs.declared.rule.Rule.TheVariants as rule
use Rattle.ddr_trace.specs.declared.rule.TheConstants.Rule.{ALL}
use Rattle.ddr_trace.specs.Commands.{is_refresh}
use Rattle.ddr_trace.specs.Rules.{breaks, breaks_on_rank, breaks_order, breaks_ref_gap, breaks_ref_late, breaks_rtrs, breaks_spacing, is_in, is_on_commands, last_cycle_below, no_spacing}
use Rattle.ddr_trace.specs.Legality.{lowest_broken, lowest_rule}
use Rattle.ddr_trace.proofs.LowestLemmas.{lowest_rule-alike, lowest_rule-none, none_broken}
use Rattle.ddr_trace.proofs.SpacingLemmas.{no_pairs}
use Rattle.ddr_trace.proofs.WindowLemmas.{no_ref_gap}
use Rattle.ddr_rank.specs.Stands.{lowest_on_rank}
use Rattle.ddr_legality.specs.declared.bus_readiness.BusReadiness.{BusReadiness}
use Rattle.ddr_legality.specs.BusReadiness.{HasIssued, is_in_order}
use Rattle.ddr_legality.specs.Refreshes.{refresh_broken}
use Rattle.ddr_legality.proofs.SwitchLemmas.{no_column, no_switch}

-- what passes one test, and not another's last ones
found_none : {X : Type 0} (p : X → Bool) (xs : List X) (y : X) → AllByRecursion (λ x. p x ≡ false) xs → find p xs ≡ Some y → ⊥
found_none p [] y none h = cc
found_none p (x ∷ xs) y none h = found_none p xs y none.1 (rw none.0 at h)

found_wider : {X : Type 0} (p q : X → Bool) (xs rest : List X) (y : X) → AllByRecursion (λ x. q x ≡ p x) xs → AllByRecursion (λ x. p x ≡ false) rest → find p (xs ++ rest) ≡ Some y → find q (xs ++ rest) ≡ Some y
found_wider p q [] rest y same none h = absurd (found_none p rest y none h)
found_wider p q (x ∷ xs) rest y same none h = by_test (p x) refl (found_wider p q xs rest y same.1 none)
  where
    by_test : (w : Bool) → p x ≡ w → (find p (xs ++ rest) ≡ Some y → find q (xs ++ rest) ≡ Some y) → find q (x ∷ (xs ++ rest)) ≡ Some y
    by_test true e further = rw (same.0, e) (rw e at h)
    by_test false e further = rw (same.0, e) (further (rw e at h))

-- the rule on two ranks alone
on_switch : Bool → Rule → Bool
on_switch soon rule.Rtrs = soon
on_switch soon _ = false

lowest_on_switch : (soon : Bool) → lowest_rule (on_switch soon) ≡ (if soon then Some rule.Rtrs else None)
unfolding lowest_rule on_switch
lowest_on_switch soon = refl

pub order_broken : (c : Config) (start end : ℕ) (history : List Entry) (e : Entry) → breaks_order start end history e ≡ true → lowest_broken c start end history e ≡ Some rule.Order
unfolding lowest_rule
order_broken c start end history e broken = rw broken refl

pub place_broken : (c : Config) (start end : ℕ) (history : List Entry) (e : Entry) → breaks_order start end history e ≡ false → is_in c.geometry e.command ≡ false → lowest_broken c start end history e ≡ Some rule.Place
unfolding lowest_rule
place_broken c start end history e order outside = rw (order, outside) refl

module _ (c : Config) (start end : ℕ) (history : List Entry) (e : Entry) (order : breaks_order start end history e ≡ false) (placed : is_in c.geometry e.command ≡ true) where
  -- the rules on a rank come before the one on two
  pub rank_broken : (r : Rule) → lowest_on_rank c history e ≡ Some r → lowest_broken c start end history e ≡ Some r
  unfolding lowest_rule
  rank_broken r lowest =
      found_wider (λ q. breaks_on_rank c q history e) (λ q. is_on_commands q && breaks c start end q history e) (take 22 ALL) (drop 22 ALL) r
      (order ∙ sym none, (ap not placed ∙ sym none, (refl, (refl, (refl, (refl, (refl, (refl, (refl, (refl, (refl, (refl, (refl, (refl, (refl, (refl, (refl, (refl, (refl, (refl, (sym none, (sym none, tt)))))))))))))))))))))) (none, tt) lowest
    where
      none : breaks_spacing no_spacing history e ≡ false
      none = no_pairs history e

  -- where the rank breaks none, that one is left
  pub switch_broken : lowest_on_rank c history e ≡ None → lowest_broken c start end history e ≡ (if breaks_rtrs c.timing history e then Some rule.Rtrs else None)
  unfolding on_switch
  switch_broken none =
      lowest_rule-alike _ _ by_rule ∙ lowest_on_switch (breaks_rtrs c.timing history e)
    where
      by_rule : (q : Rule) → (is_on_commands q && breaks c start end q history e) ≡ on_switch (breaks_rtrs c.timing history e) q
      by_rule rule.Order = order
      by_rule rule.Place = ap not placed
      by_rule rule.RefLate = refl
      by_rule rule.RefGap = refl
      by_rule rule.Rtrs = refl
      by_rule q = none_broken _ none q

-- what is kept of the last command tells the order
in_order_told : (i : BusReadiness) (history : List Entry) → HasIssued i history → (end : ℕ) (e : Entry) → not (is_in_order i.last i.start end e.cycle) ≡ breaks_order i.start end history e
in_order_told i history issued end e =
    ap (λ (b : Bool). not (b && nat_le i.start e.cycle && nat_lt e.cycle end)) (issued.last e.cycle)

pub out_of_order : (i : BusReadiness) (history : List Entry) → HasIssued i history → (end : ℕ) (e : Entry) → is_in_order i.last i.start end e.cycle ≡ false → breaks_order i.start end history e ≡ true
out_of_order i history issued end e out = sym (in_order_told i history issued end e) ∙ ap not out

pub in_order : (i : BusReadiness) (history : List Entry) → HasIssued i history → (end : ℕ) (e : Entry) → is_in_order i.last i.start end e.cycle ≡ true → breaks_order i.start end history e ≡ false
in_order i history issued end e within = sym (in_order_told i history issued end e) ∙ ap not within

-- in order, a command comes after all others
pub comes_after : (start end : ℕ) (history : List Entry) (e : Entry) → breaks_order start end history e ≡ false → last_cycle_below history e.cycle ≡ true
comes_after start end history e order = (and_parts _ _ (and_parts _ _ (not-false _ order)).0).0

-- a command that breaks none comes in order, and stands in the geometry
module _ (c : Config) (start end : ℕ) (history : List Entry) (e : Entry) (none : lowest_broken c start end history e ≡ None) where
  kept : (r : Rule) → (is_on_commands r && breaks c start end r history e) ≡ false
  kept = none_broken _ none

  pub after_kept : last_cycle_below history e.cycle ≡ true
  after_kept = comes_after start end history e (kept rule.Order)

  pub place_kept : is_in c.geometry e.command ≡ true
  place_kept = not-false _ (kept rule.Place)

-- only a REF breaks the rules on refresh
no_refresh_rule : (c : Config) (start end : ℕ) (history : List Entry) (e : Entry) → is_refresh e.command ≡ false → (q : Rule) → (is_on_commands q && breaks c start end q history e) ≡ breaks c start end q history e
no_refresh_rule c start end history e other rule.RefLate = sym (rw other refl)
no_refresh_rule c start end history e other rule.RefGap = no_ref_gap c.timing history e (sym other)
no_refresh_rule c start end history e other q = refl

-- the two rules on refresh are the last ones that a REF breaks
pub command_first : (c : Config) (start end : ℕ) (history : List Entry) (e : Entry) (r : Rule) → lowest_broken c start end history e ≡ Some r → lowest_rule (λ q. breaks c start end q history e) ≡ Some r
unfolding lowest_rule
command_first c start end history e r lowest = by_kind (is_refresh e.command) refl
  where
    by_kind : (w : Bool) → is_refresh e.command ≡ w → lowest_rule (λ q. breaks c start end q history e) ≡ Some r
    by_kind false other = sym (lowest_rule-alike _ _ (no_refresh_rule c start end history e other)) ∙ lowest
    by_kind true ref =
        found_wider (λ q. is_on_commands q && breaks c start end q history e) (λ q. breaks c start end q history e) (take 20 ALL) (drop 20 ALL) r
        (refl, (refl, (refl, (refl, (refl, (refl, (refl, (refl, (refl, (refl, (refl, (refl, (refl, (refl, (refl, (refl, (refl, (refl, (refl, (refl, tt)))))))))))))))))))) (refl, (refl, (no_switch c.timing history e (no_column e.command ref), tt))) lowest

-- the rules on refresh alone
on_refresh : Bool → Bool → Rule → Bool
on_refresh late gap rule.RefLate = late
on_refresh late gap rule.RefGap = gap
on_refresh late gap _ = false

lowest_on_refresh : (late gap : Bool) → lowest_rule (on_refresh late gap) ≡ (if late then Some rule.RefLate else (if gap then Some rule.RefGap else None))
unfolding lowest_rule on_refresh
lowest_on_refresh late gap = refl

pub then_refresh : (c : Config) (start end : ℕ) (history : List Entry) (e : Entry) → lowest_broken c start end history e ≡ None → lowest_rule (λ q. breaks c start end q history e) ≡ refresh_broken c.timing start history e
unfolding on_refresh
then_refresh c start end history e none =
    lowest_rule-alike _ _ by_rule ∙ lowest_on_refresh (breaks_ref_late c.timing start history e) (breaks_ref_gap c.timing history e)
  where
    by_rule : (q : Rule) → breaks c start end q history e ≡ on_refresh (breaks_ref_late c.timing start history e) (breaks_ref_gap c.timing history e) q
    by_rule rule.RefLate = refl
    by_rule rule.RefGap = refl
    by_rule q = none_broken _ none q

-- an entry that breaks no rule breaks none on commands
pub commands_kept : (c : Config) (start end : ℕ) (history : List Entry) (e : Entry) → lowest_rule (λ q. breaks c start end q history e) ≡ None → lowest_broken c start end history e ≡ None
commands_kept c start end history e none =
    lowest_rule-none _ (λ q. rw (none_broken _ none q) (off (is_on_commands q)))
  where
    off : (b : Bool) → (b && false) ≡ false
    off true = refl
    off false = refl
