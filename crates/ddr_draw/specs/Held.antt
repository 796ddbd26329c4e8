-- What a command waited for: of the rules on distances the one that allowed it last, by the last commands before it.
use Rattle.std.specs.Prelude.{ℕ, ◌+◌, ◌-◌, ◌*◌, ◌/◌, ◌%◌, Bool, ◌&&◌, ◌==◌, not, nat_le, max, if◌then◌else◌, List, [], ◌∷◌, count_by, drop, length, Option, Some, None}
use Rattle.std.specs.List.{fold, range_with_len}
use Rattle.ddr_timing.specs.declared.config.Config.{Config}
use Rattle.ddr_timing.specs.declared.timing.Timing.{Timing}
use Rattle.ddr_timing.specs.declared.units.TheConstants.{GROUP_BANKS}
use Rattle.ddr_trace.specs.declared.bank.OpenBank.{OpenBank}
use Rattle.ddr_trace.specs.declared.command.Command.{Command}
use Rattle.ddr_trace.specs.declared.command.Command.TheVariants.{Pre}
use Rattle.ddr_trace.specs.declared.command.Entry.{Entry}
use Rattle.ddr_trace.specs.declared.rule.Rule.{Rule}
use Rattle.ddr_trace.specs.declared.rule.Rule.TheVariants as rule
use Rattle.ddr_trace.specs.declared.rule.TheConstants.Rule.{ALL}
use Rattle.ddr_trace.specs.Banks.{bank_behind, recovery}
use Rattle.ddr_trace.specs.Commands.{is_activate, is_auto, is_column, is_refresh, is_same_bank, is_same_rank, rank_of}
use Rattle.ddr_trace.specs.Rules.{rank_switch, spacing_of, speaks_of}
use Rattle.ddr_draw.specs.declared.held.Held.{Held}
use Rattle.ddr_draw.specs.declared.held.TheConstants.{MOST_BACK}
use Rattle.ddr_draw.specs.Names.{after}

-- the rule asks for so many clocks from the cycle on, which the entry at the place sets
abbrev pub wait : Rule → ℕ → Entry → ℕ → ℕ → Held
wait r place a since least = record { rule = r; place = place; earlier = a; since = since; least = least }

-- the first cycle in which the rule allows the command
abbrev pub allowed : Held → ℕ
allowed h = after h.since h.least

-- the one that allows later, and the one found last where both allow in one cycle
abbrev pub later_of : Option Held → Held → Option Held
later_of None h = Some h
later_of (Some best) h = if nat_le (allowed best) (allowed h) then Some h else Some best

-- ---- from an earlier command on

-- an ACT of the command's rank
abbrev pub is_rank_act : Command → Entry → Bool
is_rank_act command m = is_activate m.command && is_same_rank m.command command

-- the rule asks for a distance from a command like the earlier one to one like the later one, with these between the two
abbrev pub asks : Timing → Rule → Command → Command → List Entry → Bool
asks t rule.Rtrs a b between = is_column a && is_column b && not (is_same_rank a b)
asks t rule.Faw a b between = is_activate a && is_activate b && is_same_rank a b && count_by (is_rank_act b) between == 3
asks t r a b between = speaks_of (spacing_of t r) a b

abbrev pub least_of : Timing → Rule → Command → Command → ℕ
least_of t rule.Rtrs a b = rank_switch t a b
least_of t rule.Faw a b = t.faw
least_of t r a b = (spacing_of t r).at_least

-- the rule, if it asks for a distance from the entry at the place
abbrev pub wait_under : Timing → Entry → ℕ → Entry → List Entry → Option Held → Rule → Option Held
wait_under t e place a between best r =
    if asks t r a.command e.command between then later_of best (wait r place a a.cycle (least_of t r a.command e.command)) else best

-- of all rules, and of all entries
abbrev pub wait_at : Timing → Entry → ℕ → Entry → List Entry → Option Held → List Rule → Option Held
wait_at t e place a between best [] = best
wait_at t e place a between best (r ∷ rules) = wait_at t e place a between (wait_under t e place a between best r) rules

abbrev pub wait_from : Timing → Entry → ℕ → Option Held → List Entry → Option Held
wait_from t e place best [] = best
wait_from t e place best (a ∷ later) = wait_from t e (place + 1) (wait_at t e place a later best ALL) later

-- ---- from the start of an auto-precharge on

-- the start, of a bank that is open and of its last read or write with auto-precharge
abbrev pub start_of : Timing → OpenBank → Entry → ℕ
start_of t bank auto = max (after auto.cycle (recovery t auto.command)) (after bank.since t.ras)

abbrev pub wait_closing : Timing → Rule → ℕ → OpenBank → Option Entry → Option Held → Option Held
wait_closing t r place bank None best = best
wait_closing t r place bank (Some auto) best = later_of best (wait r place auto (start_of t bank auto) t.rp)

abbrev pub wait_open : Timing → Rule → ℕ → Option OpenBank → Option Held → Option Held
wait_open t r place None best = best
wait_open t r place (Some bank) best = wait_closing t r place bank bank.auto best

-- the place of the bank's last read or write with auto-precharge
abbrev pub auto_place : Command → ℕ → ℕ → List Entry → ℕ
auto_place bank found place [] = found
auto_place bank found place (a ∷ later) =
    auto_place bank (if is_auto a.command && is_same_bank a.command bank then place else found) (place + 1) later

-- by what these entries, the first of which stands at the place, make of the bank
unfoldable pub wait_of_bank : Timing → Rule → ℕ → List Entry → Command → Option Held → Option Held
wait_of_bank t r first entries bank best = wait_open t r (auto_place bank first first entries) (bank_behind bank entries) best

-- a bank of a rank, by its number there
abbrev pub bank_at : ℕ → ℕ → Command
bank_at rank n = Pre rank (n / GROUP_BANKS) (n % GROUP_BANKS)

unfoldable pub wait_of_rank : Config → ℕ → List Entry → ℕ → Option Held → Option Held
wait_of_rank c first entries rank best =
    fold (λ found n. wait_of_bank c.timing rule.RpRef first entries (bank_at rank n) found) best (range_with_len 0 (c.geometry.groups * GROUP_BANKS))

-- an ACT waits for its bank, and a REF for all banks of its rank
abbrev pub wait_of_starts : Config → ℕ → List Entry → Command → Option Held → Option Held
wait_of_starts c first entries command best =
    if is_activate command then wait_of_bank c.timing rule.Rp first entries command best
    else if is_refresh command then wait_of_rank c first entries (rank_of command) best
    else best

-- ---- the whole

-- the commands that are looked at: the last of the history
abbrev pub recent : List Entry → List Entry
recent history = drop (length history - MOST_BACK) history

-- what the entry waited for; of the two kinds the start of an auto-precharge where both allow in one cycle
unfoldable pub held_by : Config → List Entry → Entry → Option Held
held_by c history e =
    wait_of_starts c (length history - MOST_BACK) (recent history) e.command (wait_from c.timing e (length history - MOST_BACK) None (recent history))
