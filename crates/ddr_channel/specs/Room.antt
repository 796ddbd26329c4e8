-- What a cycle needs of memory, and the room that a call leaves.
use Rattle.std.specs.Prelude.{◌≡◌, ℕ, ◌+◌, ◌≤◌, ◌==◌, ◌||◌, Bool, false, not, length, Option, IsTrue}
use Rattle.std.specs.Option.{option_map_or}
use Rattle.ddr_timing.specs.declared.geometry.Geometry.{Geometry}
use Rattle.ddr_timing.specs.Banks.{bank_number}
use Rattle.ddr_trace.specs.declared.command.Command.{Command}
use Rattle.ddr_trace.specs.declared.command.Command.TheVariants.{Act}
use Rattle.ddr_row_array.specs.Rows.{Rows, is_stored}
use Rattle.ddr_arbiter.specs.Laws.{command_of}
use Rattle.ddr_channel.specs.Choice.{choice_of}
use Rattle.ddr_channel.specs.Cycle.{at_choice}
use Rattle.ddr_channel.specs.Kept.{Kept, state_of}
use Rattle.ddr_channel.specs.State.{State}

-- an ACT of a row that is not stored
abbrev pub opens_new_row : Geometry → Rows → Command → Bool
opens_new_row shape rows (Act rank group bank row) = not (is_stored rows (bank_number shape rank group bank) row)
opens_new_row shape rows _ = false

-- there is no room for the command's entry, or the bytes of the row that it opens are not there
abbrev pub needs_memory : Geometry → ℕ → Rows → Command → Bool
needs_memory shape spare rows command = spare == 0 || opens_new_row shape rows command

-- the command of the next cycle, if it issues one
abbrev pub next_command : State → Option Command
next_command s = command_of (at_choice s).pending (choice_of (at_choice s))

-- the next cycle issues a command for which there is no room
abbrev pub wants_memory : Kept → Bool
wants_memory k = option_map_or (needs_memory k.config.geometry k.spare k.rows) (next_command (state_of k)) false

-- no row is given up, and no room for entries but by entries; and the trace is kept as before
pub record KeepsRoom (old new : Kept) : Type 0 where
  pub stored : (bank row : ℕ) → IsTrue (is_stored old.rows bank row) → IsTrue (is_stored new.rows bank row)
  pub entries : old.spare + length old.trace ≤ new.spare + length new.trace
  pub keeps : new.keeps ≡ old.keeps
