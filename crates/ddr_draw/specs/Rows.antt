-- The open rows of a picture are those that the rules of traces speak of.
use Rattle.std.specs.Prelude.{◌≡◌, ℕ, ◌-◌, ◌<◌, ◌≤◌, ◌^◌, true, false, nat_le, if◌then◌else◌, List, [], ◌∷◌, ◌++◌, Some, None}
use Rattle.ddr_timing.specs.declared.timing.Timing.{Timing}
use Rattle.ddr_trace.specs.declared.command.Entry.{Entry}
use Rattle.ddr_trace.specs.Banks.{bank_behind, open_row}
use Rattle.ddr_trace.specs.Commands.{is_activate, row_of}
use Rattle.ddr_draw.specs.Changes.{closed_by, is_closing, next_closing}

-- the row of an ACT that nothing closes is the open row of its bank
abbrev pub StaysOpen : Timing → List Entry → Entry → List Entry → Type 0
StaysOpen t before act later =
    is_activate act.command ≡ true → next_closing act.command later ≡ None
    → (cycle : ℕ) → open_row t cycle (bank_behind act.command (before ++ act ∷ later)) ≡ Some (row_of act.command)

-- and that of an ACT behind which a precharge, or a read or a write with one, is the first to close it, is it up to the cycle in which
-- the picture closes it, and none is from there on
abbrev pub Closes : Timing → List Entry → Entry → List Entry → Entry → Type 0
Closes t before act later e =
    is_activate act.command ≡ true → next_closing act.command later ≡ None → is_closing act.command e.command ≡ true → is_activate e.command ≡ false
    → (cycle : ℕ) → e.cycle ≤ cycle → cycle < 2 ^ 64 - 1
    → open_row t cycle (bank_behind act.command (before ++ act ∷ (later ++ e ∷ []))) ≡ (if nat_le (closed_by t act e) cycle then None else Some (row_of act.command))
