-- The rules on a rank, parted into those on the state of banks and the distances; and a distance once kept stays kept.
use Rattle.std.proofs.Common.{◌≡◌, ℕ, ◌+◌, ◌*◌, ◌/◌, ◌%◌, ◌≤◌, Bool, true, false, ◌&&◌, ◌||◌, not, ◌==◌, nat_lt, count_by, List, [], ◌∷◌, Option, None, Some, is_none, refl, sym, ap, arith, ◌∙◌}
use Rattle.std.specs.List.{list_any, range_with_len}
use Rattle.std.proofs.lemmas.Bool.Decides.{nat_tests}
use Rattle.ddr_timing.specs.declared.config.Config.{Config}
use Rattle.ddr_timing.specs.declared.geometry.Geometry.{Geometry}
use Rattle.ddr_timing.specs.declared.timing.Timing.{Timing}
use Rattle.ddr_timing.specs.declared.units.TheConstants.{GROUP_BANKS}
use Rattle.ddr_trace.specs.declared.bank.OpenBank.{OpenBank}
use Rattle.ddr_trace.specs.declared.command.Command.{Command}
use Rattle.ddr_trace.specs.declared.command.Command.TheVariants.{Pre}
use Rattle.ddr_trace.specs.declared.command.Entry.{Entry}
use Rattle.ddr_trace.specs.declared.rule.Rule.{Rule}
use Rattle.ddr_trace.specs.declared.rule.Rule.TheVariants as rule
use Rattle.ddr_trace.specs.declared.rule.TheConstants.Rule.{ALL}
use Rattle.ddr_trace.proofs.LowestLemmas.{lowest_rule-none, none_broken}
use Rattle.ddr_trace.specs.Banks.{any_bank, auto_start, bank_behind, is_auto_within, is_before_start}
use Rattle.ddr_trace.specs.Commands.{entry, is_activate, is_refresh, is_same_rank, rank_of}
use Rattle.ddr_trace.specs.Legality.{lowest_rule}
use Rattle.ddr_trace.specs.Rules.{Spacing, breaks_on_rank, breaks_spacing, is_too_close, some_earlier, spacing_of, speaks_of}
use Rattle.ddr_rank.proofs.HeldLemmas.{any_alike, any_either, breaks_else, none_found, split_rule}
use Rattle.ddr_rank.specs.Distances.{is_on_state, keeps_distances, no_distance}
use Rattle.ddr_rank.specs.Ready.{is_held}

-- whatever rules are broken, none is where neither STATE nor ROW is and no distance
parted : (s b : Bool) → b ≡ ((s && b) || (not s && b))
parted true true = refl
parted true false = refl
parted false b = refl

both_kept : (s w d : Bool) → not ((s || (w || false)) || d) ≡ ((not s && not w) && not d)
both_kept true w d = refl
both_kept false true d = refl
both_kept false false d = refl

pub fits_and_keeps : (broken : Rule → Bool) → is_none (lowest_rule broken) ≡ ((not (broken rule.State) && not (broken rule.Row)) && no_distance broken)
unfolding lowest_rule
fits_and_keeps broken =
    none_found broken ALL
    ∙ ap not (any_alike broken (λ r. (is_on_state r && broken r) || (not (is_on_state r) && broken r)) ALL (λ r. parted (is_on_state r) (broken r)) ∙ any_either (λ r. is_on_state r && broken r) (λ r. not (is_on_state r) && broken r) ALL)
    ∙ both_kept (broken rule.State) (broken rule.Row) (list_any (λ r. not (is_on_state r) && broken r) ALL)
    ∙ ap (λ w. (not (broken rule.State) && not (broken rule.Row)) && w) (sym (none_found (λ r. not (is_on_state r) && broken r) ALL))

-- a distance that is not on two commands, or what it says beside them
abbrev pub distance_else : Config → List Entry → Entry → Rule → Bool
distance_else c history e rule.State = false
distance_else c history e rule.Row = false
distance_else c history e r = breaks_else c history e r

split_distance : (c : Config) (history : List Entry) (e : Entry) (r : Rule) → (not (is_on_state r) && breaks_on_rank c r history e) ≡ (breaks_spacing (spacing_of c.timing r) history e || distance_else c history e r)
split_distance c history e rule.State = sym (no_pairs_false history)
  where
    no_pairs_false : (xs : List Entry) → (breaks_spacing (spacing_of c.timing rule.State) xs e || false) ≡ false
    no_pairs_false [] = refl
    no_pairs_false (a ∷ xs) = no_pairs_false xs
split_distance c history e rule.Row = sym (no_pairs_false history)
  where
    no_pairs_false : (xs : List Entry) → (breaks_spacing (spacing_of c.timing rule.Row) xs e || false) ≡ false
    no_pairs_false [] = refl
    no_pairs_false (a ∷ xs) = no_pairs_false xs
split_distance c history e r = split_rule c history e r

-- every distance is kept where none holds the entry up, and none of the others is broken
pub none_apart : (c : Config) (history : List Entry) (e : Entry) → keeps_distances c history e ≡ not (is_held c.timing history e || list_any (distance_else c history e) ALL)
unfolding lowest_rule
none_apart c history e =
    none_found (λ r. not (is_on_state r) && breaks_on_rank c r history e) ALL
    ∙ ap not (any_alike (λ r. not (is_on_state r) && breaks_on_rank c r history e) (λ r. breaks_spacing (spacing_of c.timing r) history e || distance_else c history e r) ALL (split_distance c history e) ∙ any_either (λ r. breaks_spacing (spacing_of c.timing r) history e) (distance_else c history e) ALL)

-- tests that hold in fewer cycles the later it is
fewer_or : (a b a' b' : Bool) → (a ≡ false → a' ≡ false) → (b ≡ false → b' ≡ false) → (a || b) ≡ false → (a' || b') ≡ false
fewer_or true b a' b' first second h = cc
fewer_or false true a' b' first second h = cc
fewer_or false false a' b' first second h = rw (first refl, second refl) refl

pub fewer_and : (k b b' : Bool) → (b ≡ false → b' ≡ false) → (k && b) ≡ false → (k && b') ≡ false
fewer_and true b b' less h = less h
fewer_and false b b' less h = refl

pub fewer_any : {X : Type 0} (p q : X → Bool) (xs : List X) → ((x : X) → p x ≡ false → q x ≡ false) → list_any p xs ≡ false → list_any q xs ≡ false
fewer_any p q [] less h = refl
fewer_any p q (x ∷ xs) less h = fewer_or (p x) (list_any p xs) (q x) (list_any q xs) (less x) (fewer_any p q xs less) h

fewer_earlier : (p q : Entry → List Entry → Bool) (xs : List Entry) → ((a : Entry) (between : List Entry) → p a between ≡ false → q a between ≡ false) → some_earlier p xs ≡ false → some_earlier q xs ≡ false
fewer_earlier p q [] less h = refl
fewer_earlier p q (a ∷ xs) less h = fewer_or (p a xs) (some_earlier p xs) (q a xs) (some_earlier q xs) (less a xs) (fewer_earlier p q xs less) h

-- FAW, as a test of one ACT
abbrev three_between : Command → List Entry → Bool
three_between command between = count_by (λ m. is_activate m.command && is_same_rank m.command command) between == 3

abbrev fourth_act : Timing → Command → ℕ → Entry → List Entry → Bool
fourth_act t command cycle a between = is_activate a.command && is_activate command && is_same_rank a.command command && three_between command between && nat_lt cycle (a.cycle + t.faw)

module _ (y z : ℕ) (later : y ≤ z) where
  pub past : (n : ℕ) → nat_lt y n ≡ false → nat_lt z n ≡ false
  past n h = grind (arith, nat_tests)

  spacing_stays : (s : Spacing) (history : List Entry) (command : Command) → breaks_spacing s history (entry y command) ≡ false → breaks_spacing s history (entry z command) ≡ false
  spacing_stays s history command =
      fewer_any (λ a. is_too_close s a (entry y command)) (λ a. is_too_close s a (entry z command)) history
      (λ a. fewer_and (speaks_of s a.command command) _ _ (past (a.cycle + s.at_least)))

  start_stays : (t : Timing) (clocks : ℕ) (bank : OpenBank) (auto : Option Entry) → is_before_start t clocks y bank auto ≡ false → is_before_start t clocks z bank auto ≡ false
  start_stays t clocks bank None h = refl
  start_stays t clocks bank (Some auto) h = past (auto_start t bank auto + clocks) h

  auto_stays : (t : Timing) (clocks : ℕ) (bank : Option OpenBank) → is_auto_within t clocks y bank ≡ false → is_auto_within t clocks z bank ≡ false
  auto_stays t clocks None h = refl
  auto_stays t clocks (Some bank) h = start_stays t clocks bank bank.auto h

  bank_stays : (g : Geometry) (rank : ℕ) (t : Timing) (history : List Entry) → any_bank g rank (λ bank. is_auto_within t t.rp y (bank_behind bank history)) ≡ false → any_bank g rank (λ bank. is_auto_within t t.rp z (bank_behind bank history)) ≡ false
  bank_stays g rank t history =
      fewer_any (λ n. is_auto_within t t.rp y (bank_behind (Pre rank (n / GROUP_BANKS) (n % GROUP_BANKS)) history)) (λ n. is_auto_within t t.rp z (bank_behind (Pre rank (n / GROUP_BANKS) (n % GROUP_BANKS)) history)) (range_with_len 0 (g.groups * GROUP_BANKS))
      (λ n. auto_stays t t.rp (bank_behind (Pre rank (n / GROUP_BANKS) (n % GROUP_BANKS)) history))

  -- Each distance, once kept in a cycle, is kept in every later one over the same history.
  pub distance_stays : (c : Config) (history : List Entry) (command : Command) (r : Rule) → is_on_state r ≡ false → breaks_on_rank c r history (entry y command) ≡ false → breaks_on_rank c r history (entry z command) ≡ false
  distance_stays c history command rule.State none h = cc
  distance_stays c history command rule.Row none h = cc
  distance_stays c history command rule.Rp none h =
      fewer_or _ _ _ _ (spacing_stays (spacing_of c.timing rule.Rp) history command)
      (fewer_and (is_activate command) _ _ (auto_stays c.timing c.timing.rp (bank_behind command history))) h
  distance_stays c history command rule.RpRef none h =
      fewer_or _ _ _ _ (spacing_stays (spacing_of c.timing rule.RpRef) history command)
      (fewer_and (is_refresh command) _ _ (bank_stays c.geometry (rank_of command) c.timing history)) h
  distance_stays c history command rule.Faw none h =
      fewer_earlier (fourth_act c.timing command y) (fourth_act c.timing command z) history
      (λ a between. fewer_and (is_activate a.command && is_activate command && is_same_rank a.command command && three_between command between) _ _ (past (a.cycle + c.timing.faw))) h
  distance_stays c history command r none h = spacing_stays (spacing_of c.timing r) history command h

  none_kept : (o : Option Rule) → is_none o ≡ true → o ≡ None
  none_kept None h = refl
  none_kept (Some r) h = cc

  off_state : (s b b' : Bool) → (s ≡ false → b ≡ false → b' ≡ false) → (not s && b) ≡ false → (not s && b') ≡ false
  off_state true b b' less h = refl
  off_state false b b' less h = less refl h

  -- so no distance is broken in later cycles where none is in this one
  pub no_distance_stays : (broken later_broken : Rule → Bool) → ((r : Rule) → is_on_state r ≡ false → broken r ≡ false → later_broken r ≡ false) → no_distance broken ≡ true → no_distance later_broken ≡ true
  no_distance_stays broken later_broken less h =
      let found = none_broken (λ r. not (is_on_state r) && broken r) (none_kept _ h) in
      rw (lowest_rule-none (λ r. not (is_on_state r) && later_broken r) (λ r. off_state (is_on_state r) (broken r) (later_broken r) (less r) (found r))) refl

  pub keeps_stays : (c : Config) (history : List Entry) (command : Command) → keeps_distances c history (entry y command) ≡ true → keeps_distances c history (entry z command) ≡ true
  keeps_stays c history command =
      no_distance_stays (λ r. breaks_on_rank c r history (entry y command)) (λ r. breaks_on_rank c r history (entry z command)) (distance_stays c history command)
