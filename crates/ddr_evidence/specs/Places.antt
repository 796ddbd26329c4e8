-- The last place of a history that is to blame.
use Rattle.std.specs.Prelude.{◌≡◌, ℕ, ◌+◌, ◌<◌, ◌*◌, ◌/◌, ◌%◌, Bool, true, false, ◌&&◌, ◌||◌, ◌==◌, nat_lt, List, drop, take, Option, Some, None, is_some, slice_get, count_by}
use Rattle.std.specs.Option.{option_map_or}
use Rattle.ddr_timing.specs.declared.timing.Timing.{Timing}
use Rattle.ddr_timing.specs.declared.units.TheConstants.{GROUP_BANKS}
use Rattle.ddr_trace.specs.declared.bank.OpenBank.{OpenBank}
use Rattle.ddr_trace.specs.declared.command.Command.{Command}
use Rattle.ddr_trace.specs.declared.command.Command.TheVariants.{Pre}
use Rattle.ddr_trace.specs.declared.command.Entry.{Entry}
use Rattle.ddr_trace.specs.declared.rule.Rule.{Rule}
use Rattle.ddr_trace.specs.declared.rule.Rule.TheVariants as rule
use Rattle.ddr_evidence.specs.declared.evidence.Placed.{Placed}
use Rattle.ddr_trace.specs.Banks.{bank_behind}
use Rattle.ddr_trace.specs.Commands.{is_activate, is_auto, is_precharge, is_refresh, is_same_bank, is_same_rank}
use Rattle.ddr_trace.specs.Rules.{breaks_faw, breaks_ref_gap, breaks_rtrs, breaks_spacing, is_switched_too_soon, is_too_close, rank_switch, spacing_of}

-- the last place that passes the test
pub record IsLast (test : ℕ → Bool) (place : ℕ) : Type 0 where
  pub passes : test place ≡ true
  pub last : (later : ℕ) → place < later → test later ≡ false

-- which of the entries between an earlier one and the present one count: for FAW the ACTs of the rank, and for REF_GAP its REFs
abbrev pub counts : Rule → Entry → Entry → Bool
counts rule.Faw e m = is_activate m.command && is_same_rank m.command e.command
counts rule.RefGap e m = is_refresh m.command && is_same_rank m.command e.command
counts _ e m = false

-- The earlier entry and the present one break the rule, with so many entries between them that count: each rule's own
-- definition, at one earlier entry.
abbrev pub are_breaking : Timing → Rule → Entry → Entry → ℕ → Bool
are_breaking t rule.Rtrs e a between = is_switched_too_soon t a e
are_breaking t rule.Faw e a between =
    is_activate a.command && is_activate e.command && is_same_rank a.command e.command
    && between == 3
    && nat_lt e.cycle (a.cycle + t.faw)
are_breaking t rule.RefGap e a between =
    is_refresh a.command && is_refresh e.command && is_same_rank a.command e.command
    && between == 0
    && nat_lt (a.cycle + 9 * t.refi) e.cycle
are_breaking t r e a between = is_too_close (spacing_of t r) a e

-- the entry breaks the rule together with an earlier one
abbrev pub pair_breaks : Timing → Rule → List Entry → Entry → Bool
pair_breaks t rule.Rtrs history e = breaks_rtrs t history e
pair_breaks t rule.Faw history e = breaks_faw t history e
pair_breaks t rule.RefGap history e = breaks_ref_gap t history e
pair_breaks t r history e = breaks_spacing (spacing_of t r) history e

-- the entry at the place and the present one break the rule
abbrev pub breaks_from : Timing → Rule → List Entry → Entry → ℕ → Bool
breaks_from t r history e place =
    option_map_or (λ a. are_breaking t r e a (count_by (counts r e) (drop (place + 1) history))) (slice_get history place) false

-- the least distance that the rule asks for from the one command to the other
abbrev pub least_of : Timing → Rule → Command → Command → ℕ
least_of t rule.Rtrs a b = rank_switch t a b
least_of t rule.Faw a b = t.faw
least_of t r a b = (spacing_of t r).at_least

-- the entry opens the bank, or closes it or is to close it where it is open
abbrev pub changes : Entry → Option OpenBank → Bool
changes a bank = is_activate a.command || (is_some bank && (is_precharge a.command || is_auto a.command))

-- the entry at the place changes the bank that the command is for
abbrev pub changes_at : Command → List Entry → ℕ → Bool
changes_at command history place =
    option_map_or (λ a. is_same_bank a.command command && changes a (bank_behind command (take place history))) (slice_get history place) false

-- the place of the last entry that changed the bank, if one did
abbrev pub IsLastChangeAt : Command → List Entry → Option ℕ → Type 0
IsLastChangeAt command history (Some place) = IsLast (changes_at command history) place
IsLastChangeAt command history None = (place : ℕ) → changes_at command history place ≡ false

-- that entry, at its place
abbrev pub IsLastChange : Command → List Entry → Option Placed → Type 0
IsLastChange command history (Some p) = (slice_get history p.place ≡ Some p.entry) × IsLast (changes_at command history) p.place
IsLastChange command history None = (place : ℕ) → changes_at command history place ≡ false

-- the bank of this number in its rank
abbrev pub bank_at : ℕ → ℕ → Command
bank_at rank number = Pre rank (number / GROUP_BANKS) (number % GROUP_BANKS)
