-- Which part of a history tells what an entry breaks.
use Rattle.std.specs.Prelude.{◌≡◌, ℕ, ◌+◌, ◌<◌, ◌≤◌, Bool, true, false, ◌&&◌, ◌||◌, max, List, length, take, Some, All, slice_get}
use Rattle.std.specs.List.{fold, slice_index_or}
use Rattle.ddr_timing.specs.declared.timing.Timing.{Timing}
use Rattle.ddr_timing.specs.declared.units.TheConstants.{BURST_CLOCKS}
use Rattle.ddr_trace.specs.declared.command.Command.{Command}
use Rattle.ddr_trace.specs.declared.command.Entry.{Entry}
use Rattle.ddr_trace.specs.declared.rule.Rule.{Rule}
use Rattle.ddr_trace.specs.declared.rule.Rule.TheVariants as rule
use Rattle.ddr_trace.specs.Commands.{is_activate, is_column, is_precharge, is_same_bank}
use Rattle.ddr_trace.specs.Rules.{spacing_of}

-- ---- banks

-- the entry opens the bank that the command is for
abbrev pub opens : Command → Entry → Bool
opens command a = is_activate a.command && is_same_bank a.command command

-- the entry decides what the bank that the command is for is, whatever it was
abbrev pub decides : Command → Entry → Bool
decides command a = (is_activate a.command || is_precharge a.command) && is_same_bank a.command command

-- the place is that of an ACT of the bank that the command is for
abbrev pub StartsAtAct : Command → List Entry → ℕ → Type 0
StartsAtAct command history place = (a : Entry) × (slice_get history place ≡ Some a) × (opens command a ≡ true)

-- ---- distances

-- reach tells at each place of the history a cycle that no entry up to there is behind
pub record IsReach (history : List Entry) (reach : List ℕ) : Type 0 where
  pub long : length history ≤ length reach
  pub above : (place : ℕ) → place < length history → All (λ a. a.cycle ≤ slice_index_or reach place 0) (take (place + 1) history)

-- the greatest cycle of the entries, 0 where there is none
abbrev pub greatest_cycle : List Entry → ℕ
greatest_cycle entries = fold (λ greatest a. max greatest a.cycle) 0 entries

-- reach tells at each place of the entries, and at no other, the greatest cycle up to there
pub record IsGreatest (entries : List Entry) (reach : List ℕ) : Type 0 where
  pub long : length reach ≡ length entries
  pub each : (place : ℕ) → place < length entries → slice_index_or reach place 0 ≡ greatest_cycle (take (place + 1) entries)

-- the rule is one that the entry can break together with a near one alone
abbrev pub is_of_near : Rule → Bool
is_of_near rule.RefGap = false
is_of_near _ = true

-- no two entries that stand so many clocks apart break the rule
abbrev pub span_of : Timing → Rule → ℕ
span_of t rule.Rtrs = max t.cl t.cwl + BURST_CLOCKS + t.rtrs
span_of t rule.Faw = t.faw
span_of t r = (spacing_of t r).at_least

-- the command is one that may break the rule together with a near earlier one
abbrev pub is_later : Timing → Rule → Command → Bool
is_later t rule.Rtrs command = is_column command
is_later t rule.Faw command = is_activate command
is_later t r command = (spacing_of t r).later command
