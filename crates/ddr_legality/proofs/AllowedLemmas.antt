-- The first cycle in which a command keeps every distance on the bus; and a distance once kept there stays kept.
use Rattle.std.proofs.Common.{◌≡◌, ℕ, ◌+◌, ◌<◌, ◌≤◌, max, Bool, true, false, ◌&&◌, ◌||◌, not, nat_le, nat_lt, if◌then◌else◌, List, [], ◌∷◌, Option, Some, None, refl, sym, ap, arith, ◌∙◌}
use Rattle.std.specs.List.{list_any}
use Rattle.std.proofs.lemmas.Bool.Decides.{nat_tests}
use Rattle.ddr_timing.specs.declared.config.Config.{Config}
use Rattle.ddr_timing.specs.declared.timing.Timing.{Timing}
use Rattle.ddr_trace.specs.declared.command.Command.{Command}
use Rattle.ddr_trace.specs.declared.command.Entry.{Entry}
use Rattle.ddr_trace.specs.declared.rule.Rule.{Rule}
use Rattle.ddr_trace.specs.declared.rule.Rule.TheVariants as rule
use Rattle.ddr_trace.specs.declared.rule.TheConstants.Rule.{ALL}
use Rattle.ddr_trace.specs.Commands.{entry, is_column, is_same_rank, rank_of}
use Rattle.ddr_trace.specs.Legality.{lowest_rule}
use Rattle.ddr_trace.specs.Rules.{breaks, breaks_on_rank, breaks_order, breaks_rtrs, breaks_spacing, is_in, is_on_commands, is_switched_too_soon, last_cycle_below, no_spacing, rank_switch}
use Rattle.ddr_trace.proofs.SpacingLemmas.{no_pairs}
use Rattle.ddr_rank.proofs.DistanceLemmas.{distance_stays, fewer_and, fewer_any, no_distance_stays, past}
use Rattle.ddr_rank.proofs.HeldLemmas.{any_alike, any_either, below_max, none_found}
use Rattle.ddr_rank.specs.Distances.{is_on_state, keeps_distances, no_distance}
use Rattle.ddr_rank.specs.Ready.{LAST_CYCLE, after}
use Rattle.ddr_legality.specs.declared.columns.Columns.{Columns}
use Rattle.ddr_legality.specs.declared.bus_readiness.BusReadiness.{BusReadiness}
use Rattle.ddr_legality.specs.Bus.{Bus, keeps_distances_now}
use Rattle.ddr_legality.specs.Columns.{behind_columns, behind_switch, is_switched_soon, switches_soon}
use Rattle.ddr_legality.specs.BusReadiness.{HasIssued, behind_last, is_later, other_columns}
use Rattle.ddr_legality.proofs.IssuedLemmas.{other_told}

-- the rules on the bus beside those on a rank
beside_rank : Bool → Bool → Bool → Rule → Bool
beside_rank order outside soon rule.Order = order
beside_rank order outside soon rule.Place = outside
beside_rank order outside soon rule.Rtrs = soon
beside_rank order outside soon _ = false

beside_any : (order outside soon : Bool) → list_any (beside_rank order outside soon) ALL ≡ (order || (outside || (soon || false)))
unfolding beside_rank
beside_any order outside soon = refl

or_false : (b : Bool) → b ≡ (b || false)
or_false true = refl
or_false false = refl

not_or : (a b : Bool) → not (a || b) ≡ (not a && not b)
not_or true b = refl
not_or false b = refl

three_kept : (a b d : Bool) → not (a || (b || (d || false))) ≡ (not a && not b && not d)
three_kept true b d = refl
three_kept false true d = refl
three_kept false false true = refl
three_kept false false false = refl

module _ (c : Config) (start end : ℕ) (history : List Entry) (e : Entry) where
  on_bus : Rule → Bool
  on_bus r = not (is_on_state r) && (is_on_commands r && breaks c start end r history e)

  on_rank : Rule → Bool
  on_rank r = not (is_on_state r) && breaks_on_rank c r history e

  none : breaks_spacing no_spacing history e ≡ false
  none = no_pairs history e

  by_rule : (r : Rule) → on_bus r ≡ (on_rank r || beside_rank (breaks_order start end history e) (not (is_in c.geometry e.command)) (breaks_rtrs c.timing history e) r)
  unfolding on_bus on_rank beside_rank
  by_rule rule.Order = rw none refl
  by_rule rule.Place = rw none refl
  by_rule rule.RefLate = rw none refl
  by_rule rule.RefGap = rw none refl
  by_rule rule.Rtrs = rw none refl
  by_rule rule.State = refl
  by_rule rule.Row = refl
  by_rule r = or_false (breaks_on_rank c r history e)

  -- every distance on the bus is ORDER, PLACE, RTRS, or one on the rank
  pub bus_parted : no_distance (λ r. is_on_commands r && breaks c start end r history e) ≡ (keeps_distances c history e && (not (breaks_order start end history e) && not (not (is_in c.geometry e.command)) && not (breaks_rtrs c.timing history e)))
  unfolding lowest_rule on_bus on_rank
  bus_parted =
      let beside = beside_rank (breaks_order start end history e) (not (is_in c.geometry e.command)) (breaks_rtrs c.timing history e) in
      none_found on_bus ALL
      ∙ ap not (any_alike on_bus (λ r. on_rank r || beside r) ALL by_rule ∙ any_either on_rank beside ALL)
      ∙ not_or (list_any on_rank ALL) (list_any beside ALL)
      ∙ ap (λ w. w && not (list_any beside ALL)) (sym (none_found on_rank ALL))
      ∙ ap (λ w. keeps_distances c history e && not w) (beside_any (breaks_order start end history e) (not (is_in c.geometry e.command)) (breaks_rtrs c.timing history e))
      ∙ ap (λ w. keeps_distances c history e && w) (three_kept (breaks_order start end history e) (not (is_in c.geometry e.command)) (breaks_rtrs c.timing history e))

-- a command outside the geometry is never allowed
never : (a b d : Bool) → (a && (b && not (not false) && d)) ≡ false
never true true d = refl
never true false d = refl
never false b d = refl

pub never_outside : (c : Config) (start end : ℕ) (history : List Entry) (e : Entry) (y : ℕ) → y < LAST_CYCLE → is_in c.geometry e.command ≡ false → no_distance (λ r. is_on_commands r && breaks c start end r history e) ≡ nat_le LAST_CYCLE y
never_outside c start end history e y below outside =
    bus_parted c start end history e
    ∙ ap (λ w. keeps_distances c history e && (not (breaks_order start end history e) && not (not w) && not (breaks_rtrs c.timing history e))) outside
    ∙ never _ _ _ ∙ past_all
  where
    past_all : false ≡ nat_le LAST_CYCLE y
    past_all = grind (arith, nat_tests)

-- RTRS, by a number
module _ (y : ℕ) (below : y < LAST_CYCLE) where
  switch_first : (t : Timing) (last : Option Entry) (c : Command) → nat_lt y (behind_switch t last c) ≡ is_switched_soon t last (entry y c)
  switch_first t None c = grind (arith, nat_tests)
  switch_first t (Some a) c = at_switch a.cycle (rank_switch t a.command c)
    where
      at_switch : (n clocks : ℕ) → nat_lt y (after n clocks) ≡ nat_lt y (n + clocks)
      at_switch n clocks = grind (arith, nat_tests)

  columns_first : (t : Timing) (columns : Columns) (c : Command) → nat_lt y (behind_columns t columns c) ≡ switches_soon t columns (entry y c)
  columns_first t columns c = by_kind (is_column c) refl
    where
      by_kind : (w : Bool) → is_column c ≡ w → nat_lt y (if w then max (behind_switch t columns.read c) (behind_switch t columns.write c) else 0) ≡ (w && (is_switched_soon t columns.read (entry y c) || is_switched_soon t columns.write (entry y c)))
      by_kind true is =
          below_max y (behind_switch t columns.read c) (behind_switch t columns.write c)
          ∙ ap (λ w. w || nat_lt y (behind_switch t columns.write c)) (switch_first t columns.read c)
          ∙ ap (λ w. is_switched_soon t columns.read (entry y c) || w) (switch_first t columns.write c)
      by_kind false is = grind (arith, nat_tests)

  pub switch_left : (t : Timing) (columns : Columns) (c : Command) → nat_le (behind_columns t columns c) y ≡ not (switches_soon t columns (entry y c))
  switch_left t columns c = at_or_above (behind_columns t columns c) ∙ ap not (columns_first t columns c)
    where
      at_or_above : (n : ℕ) → nat_le n y ≡ not (nat_lt y n)
      at_or_above n = grind (arith, nat_tests)

  last_first : (last : Option ℕ) → nat_le (behind_last last) y ≡ is_later last y
  last_first None = grind (arith, nat_tests)
  last_first (Some last) = grind (arith, nat_tests)

not_below : (n y : ℕ) → not (nat_lt y n) ≡ nat_le n y
not_below n y = grind (arith, nat_tests)

-- in order, where the cycle is neither below the start nor behind the end
in_order_by : (start y : ℕ) (w : Bool) → start ≤ y → not (not (w && nat_le start y && nat_lt y (y + 1))) ≡ w
in_order_by start y true begun = grind (arith, nat_tests)
in_order_by start y false begun = refl

-- a command in the geometry
pub allowed_told : (i : BusReadiness) (history : List Entry) (c : Command) (from y first free : ℕ) → HasIssued i history → is_in i.config.geometry c ≡ true → y < LAST_CYCLE → i.start ≤ from → from ≤ y
    → free ≡ max (max from (behind_last i.last)) (behind_columns i.config.timing (other_columns i (rank_of c)) c)
    → free ≤ first
    → (free ≤ y → keeps_distances i.config history (entry y c) ≡ nat_le first y)
    → no_distance (λ r. is_on_commands r && breaks i.config i.start (y + 1) r history (entry y c)) ≡ nat_le first y
allowed_told i history c from y first free issued placed below begun from_on is above told =
    bus_parted i.config i.start (y + 1) history (entry y c)
    ∙ ap (λ w. keeps && (not (not (last_cycle_below history y && nat_le i.start y && nat_lt y (y + 1))) && not (not w) && not (breaks_rtrs i.config.timing history (entry y c)))) placed
    ∙ ap (λ w. keeps && (w && true && not (breaks_rtrs i.config.timing history (entry y c)))) (in_order_by i.start y (last_cycle_below history y) (omega arith) ∙ sym (issued.last y) ∙ sym (last_first y below i.last))
    ∙ ap (λ w. keeps && (nat_le (behind_last i.last) y && true && not w)) (sym (columns_first y below i.config.timing (other_columns i (rank_of c)) c ∙ other_told i history (entry y c) issued placed))
    ∙ ap (λ w. keeps && (nat_le (behind_last i.last) y && true && w)) (not_below (behind_columns i.config.timing (other_columns i (rank_of c)) c) y)
    ∙ by_free (behind_last i.last) (behind_columns i.config.timing (other_columns i (rank_of c)) c) is
  where
    keeps : Bool
    keeps = keeps_distances i.config history (entry y c)

    by_free : (l s : ℕ) → free ≡ max (max from l) s → (keeps && (nat_le l y && true && nat_le s y)) ≡ nat_le first y
    by_free l s is = grind (arith, nat_tests, told)

-- Each rule on commands but those on the state of banks, once kept on the bus in a cycle, is kept in every later one.
module _ (y z : ℕ) (later : y ≤ z) where
  below_stays : (history : List Entry) → last_cycle_below history y ≡ true → last_cycle_below history z ≡ true
  below_stays [] h = refl
  below_stays (a ∷ []) h = grind (arith, nat_tests)
  below_stays (a ∷ b ∷ more) h = below_stays (b ∷ more) h

  order_stays : (start : ℕ) (history : List Entry) → not (last_cycle_below history y && nat_le start y && nat_lt y (y + 1)) ≡ false → not (last_cycle_below history z && nat_le start z && nat_lt z (z + 1)) ≡ false
  order_stays start history = by_last (last_cycle_below history y) (last_cycle_below history z) (below_stays history)
    where
      by_last : (v w : Bool) → (v ≡ true → w ≡ true) → not (v && nat_le start y && nat_lt y (y + 1)) ≡ false → not (w && nat_le start z && nat_lt z (z + 1)) ≡ false
      by_last true w stays h = rw (stays refl) (grind (arith, nat_tests))
      by_last false w stays h = cc

  switch_stays : (t : Timing) (history : List Entry) (c : Command) → breaks_rtrs t history (entry y c) ≡ false → breaks_rtrs t history (entry z c) ≡ false
  switch_stays t history c =
      fewer_any (λ a. is_switched_too_soon t a (entry y c)) (λ a. is_switched_too_soon t a (entry z c)) history
      (λ a. fewer_and (is_column a.command && is_column c && not (is_same_rank a.command c)) _ _ (past y z later (a.cycle + rank_switch t a.command c)))

  rule_stays : (b : Bus) (c : Command) (r : Rule) → is_on_state r ≡ false
      → (is_on_commands r && breaks b.config b.start (y + 1) r b.trace (entry y c)) ≡ false → (is_on_commands r && breaks b.config b.start (z + 1) r b.trace (entry z c)) ≡ false
  rule_stays b c rule.Order none h = order_stays b.start b.trace h
  rule_stays b c rule.Place none h = h
  rule_stays b c rule.RefLate none h = refl
  rule_stays b c rule.RefGap none h = refl
  rule_stays b c rule.Rtrs none h = switch_stays b.config.timing b.trace c h
  rule_stays b c r none h = distance_stays y z later b.config b.trace c r none h

  pub keeps_now_stays : (b : Bus) (c : Command) → keeps_distances_now (record b { now = y }) c ≡ true → keeps_distances_now (record b { now = z }) c ≡ true
  keeps_now_stays b c =
      no_distance_stays y z later (λ r. is_on_commands r && breaks b.config b.start (y + 1) r b.trace (entry y c)) (λ r. is_on_commands r && breaks b.config b.start (z + 1) r b.trace (entry z c)) (rule_stays b c)
