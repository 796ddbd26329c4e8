-- The rules of a trace, one definition each. The history of an entry is all that stands before it, oldest
-- first, and a distance is the later cycle minus the earlier cycle.
use Rattle.std.specs.Prelude.{ℕ, ◌+◌, ◌-◌, ◌*◌, ◌/◌, Bool, true, false, ◌&&◌, ◌||◌, not, ◌==◌, nat_lt, nat_le, max, if◌then◌else◌, List, [], ◌∷◌, count_by}
use Rattle.std.specs.List.{list_any, range_with_len}
use Rattle.std.specs.Option.{is_none}
use Rattle.ddr_timing.specs.declared.config.Config.{Config}
use Rattle.ddr_timing.specs.declared.geometry.Geometry.{Geometry}
use Rattle.ddr_timing.specs.declared.timing.Timing.{Timing}
use Rattle.ddr_timing.specs.declared.units.TheConstants.{BURST_CLOCKS, GROUP_BANKS, LINE_COLUMNS}
use Rattle.ddr_trace.specs.declared.command.Command.{Command}
use Rattle.ddr_trace.specs.declared.command.Command.TheVariants.{Act, Rd, Wr, RdAuto, WrAuto, Pre, PreAll, Refresh}
use Rattle.ddr_trace.specs.declared.command.Entry.{Entry}
use Rattle.ddr_trace.specs.declared.rule.Rule.{Rule}
use Rattle.ddr_trace.specs.declared.rule.Rule.TheVariants as rule
use Rattle.ddr_trace.specs.Commands.{is_activate, is_read, is_write, is_column, is_precharge, is_refresh, is_same_kind, is_same_rank, is_same_group, is_other_group, is_same_bank, is_other_bank, rank_of, row_of}
use Rattle.ddr_trace.specs.Banks.{any_bank, bank_behind, is_active, is_auto_within, is_row, open_row, ready_row}

-- A rule on two commands: which comes earlier, which later, which pairs of the two, and the least distance.
pub record Spacing : Type 0 where
  pub earlier : Command → Bool
  pub later : Command → Bool
  pub pairs : Command → Command → Bool
  pub at_least : ℕ

abbrev pub spacing : (Command → Bool) → (Command → Bool) → (Command → Command → Bool) → ℕ → Spacing
spacing a b p least = record { earlier = a; later = b; pairs = p; at_least = least }

abbrev pub no_spacing : Spacing
no_spacing = spacing (λ _. false) (λ _. false) (λ _ _. false) 0

-- The table of the rules on two commands. Where a write's data count, they end WL + 4 after the command.
abbrev pub spacing_of : Timing → Rule → Spacing
spacing_of t rule.Rcd = spacing is_activate is_column is_same_bank t.rcd
spacing_of t rule.Ras = spacing is_activate is_precharge is_same_bank t.ras
spacing_of t rule.Rc = spacing is_activate is_activate is_same_bank t.rc
spacing_of t rule.Rp = spacing is_precharge is_activate is_same_bank t.rp
spacing_of t rule.RrdL = spacing is_activate is_activate is_other_bank t.rrd_l
spacing_of t rule.RrdS = spacing is_activate is_activate is_other_group t.rrd_s
spacing_of t rule.CcdL = spacing is_column is_column (λ a b. is_same_kind a b && is_same_group a b) t.ccd_l
spacing_of t rule.CcdS = spacing is_column is_column (λ a b. is_same_kind a b && is_other_group a b) t.ccd_s
spacing_of t rule.WtrL = spacing is_write is_read is_same_group (t.cwl + BURST_CLOCKS + t.wtr_l)
spacing_of t rule.WtrS = spacing is_write is_read is_other_group (t.cwl + BURST_CLOCKS + t.wtr_s)
spacing_of t rule.Rtp = spacing is_read is_precharge is_same_bank t.rtp
spacing_of t rule.Wr = spacing is_write is_precharge is_same_bank (t.cwl + BURST_CLOCKS + t.wr)
spacing_of t rule.Rtw = spacing is_read is_write is_same_rank t.rtw
spacing_of t rule.RpRef = spacing is_precharge is_refresh is_same_rank t.rp
spacing_of t rule.Rfc = spacing is_refresh (λ _. true) is_same_rank t.rfc
spacing_of t _ = no_spacing

-- the two are a pair of the rule's
abbrev pub speaks_of : Spacing → Command → Command → Bool
speaks_of s a b = s.earlier a && s.later b && s.pairs a b

-- the two are a pair of the rule's, and stand too close
abbrev pub is_too_close : Spacing → Entry → Entry → Bool
is_too_close s a b = speaks_of s a.command b.command && nat_lt b.cycle (a.cycle + s.at_least)

-- the entry is the later one of a pair that is too close
abbrev pub breaks_spacing : Spacing → List Entry → Entry → Bool
breaks_spacing s history e = list_any (λ a. is_too_close s a e) history

-- some earlier entry, with what stands between it and the present place, passes the test
abbrev pub some_earlier : (Entry → List Entry → Bool) → List Entry → Bool
some_earlier test [] = false
some_earlier test (a ∷ between) = test a between || some_earlier test between

-- ORDER: the cycle is above that of the entry before, not below start, and below end.
abbrev pub last_cycle_below : List Entry → ℕ → Bool
last_cycle_below [] cycle = true
last_cycle_below (a ∷ []) cycle = nat_lt a.cycle cycle
last_cycle_below (a ∷ b ∷ later) cycle = last_cycle_below (b ∷ later) cycle

abbrev pub breaks_order : ℕ → ℕ → List Entry → Entry → Bool
breaks_order start end history e = not (last_cycle_below history e.cycle && nat_le start e.cycle && nat_lt e.cycle end)

-- PLACE: rank, group, bank, row and line lie in the geometry.
abbrev pub is_bank_in : Geometry → ℕ → ℕ → ℕ → Bool
is_bank_in g rank group bank = nat_lt rank g.ranks && nat_lt group g.groups && nat_lt bank GROUP_BANKS

abbrev pub is_line_in : Geometry → ℕ → ℕ → ℕ → ℕ → ℕ → Bool
is_line_in g rank group bank row line = is_bank_in g rank group bank && nat_lt row g.rows && nat_lt line (g.columns / LINE_COLUMNS)

abbrev pub is_in : Geometry → Command → Bool
is_in g (Act rank group bank row) = is_bank_in g rank group bank && nat_lt row g.rows
is_in g (Rd rank group bank row line) = is_line_in g rank group bank row line
is_in g (Wr rank group bank row line) = is_line_in g rank group bank row line
is_in g (RdAuto rank group bank row line) = is_line_in g rank group bank row line
is_in g (WrAuto rank group bank row line) = is_line_in g rank group bank row line
is_in g (Pre rank group bank) = is_bank_in g rank group bank
is_in g (PreAll rank) = nat_lt rank g.ranks
is_in g (Refresh rank) = nat_lt rank g.ranks

-- STATE: an ACT finds its bank idle, a read or a write finds it active and with no auto-precharge to come, and a REF
-- finds all banks of its rank idle.
abbrev pub breaks_state : Config → List Entry → Entry → Bool
breaks_state c history e =
    (is_activate e.command && is_active c.timing e.cycle (bank_behind e.command history))
    || (is_column e.command && is_none (ready_row (bank_behind e.command history)))
    || (is_refresh e.command && any_bank c.geometry (rank_of e.command) (λ bank. is_active c.timing e.cycle (bank_behind bank history)))

-- ROW: the row of a read or a write is the open row of its bank.
abbrev pub breaks_row : Timing → List Entry → Entry → Bool
breaks_row t history e =
    is_column e.command && not (is_row (open_row t e.cycle (bank_behind e.command history)) (row_of e.command))

-- RP counts from the start of an auto-precharge too,
abbrev pub breaks_rp : Timing → List Entry → Entry → Bool
breaks_rp t history e =
    breaks_spacing (spacing_of t rule.Rp) history e
    || (is_activate e.command && is_auto_within t t.rp e.cycle (bank_behind e.command history))

-- and so does RP_REF.
abbrev pub breaks_rp_ref : Config → List Entry → Entry → Bool
breaks_rp_ref c history e =
    breaks_spacing (spacing_of c.timing rule.RpRef) history e
    || (is_refresh e.command && any_bank c.geometry (rank_of e.command) (λ bank. is_auto_within c.timing c.timing.rp e.cycle (bank_behind bank history)))

-- the clocks from a read or a write to its data: CL or CWL
abbrev pub latency : Timing → Command → ℕ
latency t command = if is_read command then t.cl else t.cwl

-- RTRS: between data of different ranks the bus is free for RTRS clocks, and their commands stand a burst apart.
abbrev pub rank_switch : Timing → Command → Command → ℕ
rank_switch t a b = max BURST_CLOCKS (latency t a + BURST_CLOCKS + t.rtrs - latency t b)

abbrev pub is_switched_too_soon : Timing → Entry → Entry → Bool
is_switched_too_soon t a b =
    is_column a.command && is_column b.command && not (is_same_rank a.command b.command)
    && nat_lt b.cycle (a.cycle + rank_switch t a.command b.command)

abbrev pub breaks_rtrs : Timing → List Entry → Entry → Bool
breaks_rtrs t history e = list_any (λ a. is_switched_too_soon t a e) history

-- FAW: an ACT and the fourth ACT of the rank after it.
abbrev pub breaks_faw : Timing → List Entry → Entry → Bool
breaks_faw t history e = some_earlier (λ a between.
    is_activate a.command && is_activate e.command && is_same_rank a.command e.command
    && count_by (λ m. is_activate m.command && is_same_rank m.command e.command) between == 3
    && nat_lt e.cycle (a.cycle + t.faw)) history

-- how many REFs of the command's rank the history has
abbrev pub refresh_count : List Entry → Command → ℕ
refresh_count history command = count_by (λ a. is_refresh a.command && is_same_rank a.command command) history

-- REF_LATE: the k-th REF, k from 1, is at or before start + (k + 8) * REFI.
abbrev pub breaks_ref_late : Timing → ℕ → List Entry → Entry → Bool
breaks_ref_late t start history e =
    is_refresh e.command && nat_lt (start + (refresh_count history e.command + 1 + 8) * t.refi) e.cycle

-- REF_GAP: a REF and the next one are at most 9 * REFI apart.
abbrev pub breaks_ref_gap : Timing → List Entry → Entry → Bool
breaks_ref_gap t history e = some_earlier (λ a between.
    is_refresh a.command && is_refresh e.command && is_same_rank a.command e.command
    && refresh_count between e.command == 0
    && nat_lt (a.cycle + 9 * t.refi) e.cycle) history

-- REF_LATE at the trace's end: of a rank's K REFs the next one is due no later than start + (K + 9) * REFI.
abbrev pub ends_late : Config → ℕ → ℕ → List Entry → Bool
ends_late c start end entries =
    list_any (λ rank. nat_lt (start + (refresh_count entries (Refresh rank) + 9) * c.timing.refi) end) (range_with_len 0 c.geometry.ranks)

-- The rules on the banks of a rank: the entry breaks the rule after its history, whatever the trace's start and end.
abbrev pub breaks_on_rank : Config → Rule → List Entry → Entry → Bool
breaks_on_rank c rule.State history e = breaks_state c history e
breaks_on_rank c rule.Row history e = breaks_row c.timing history e
breaks_on_rank c rule.Rp history e = breaks_rp c.timing history e
breaks_on_rank c rule.Faw history e = breaks_faw c.timing history e
breaks_on_rank c rule.RpRef history e = breaks_rp_ref c history e
breaks_on_rank c r history e = breaks_spacing (spacing_of c.timing r) history e

-- the entry breaks the rule, after its history, in a trace of this start and end
abbrev pub breaks : Config → ℕ → ℕ → Rule → List Entry → Entry → Bool
breaks c start end rule.Order history e = breaks_order start end history e
breaks c start end rule.Place history e = not (is_in c.geometry e.command)
breaks c start end rule.RefLate history e = breaks_ref_late c.timing start history e
breaks c start end rule.RefGap history e = breaks_ref_gap c.timing history e
breaks c start end rule.Rtrs history e = breaks_rtrs c.timing history e
breaks c start end r history e = breaks_on_rank c r history e

-- the rules on commands, which a legal trace keeps, are all but the two on refresh
abbrev pub is_on_commands : Rule → Bool
is_on_commands rule.RefLate = false
is_on_commands rule.RefGap = false
is_on_commands _ = true
