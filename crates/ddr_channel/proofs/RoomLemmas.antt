-- What a cycle takes of the room for entries, and what it wants of memory.
use Rattle.std.proofs.Common.{◌≡◌, ℕ, ◌+◌, false, Some, None, ◌∷◌, [], Option, IsTrue, length, ap, subst, ◌∙◌, arith}
use Rattle.std.specs.Option.{option_map_or, IfSome}
use Rattle.std.proofs.lemmas.List.{length-append}
use Rattle.ddr_timing.specs.declared.geometry.Geometry.{Geometry}
use Rattle.ddr_timing.specs.Banks.{bank_number}
use Rattle.ddr_trace.specs.declared.command.Command.{Command}
use Rattle.ddr_trace.specs.declared.command.Command.TheVariants.{Act, Rd, Wr, RdAuto, WrAuto, Pre, PreAll, Refresh}
use Rattle.ddr_trace.specs.Commands.{entry}
use Rattle.ddr_legality.specs.Bus.{Bus, recorded}
use Rattle.ddr_legality.specs.Kept as legality
use Rattle.ddr_row_array.specs.Rows.{Rows, is_stored}
use Rattle.ddr_arbiter.specs.declared.choice.Choice.{Choice}
use Rattle.ddr_arbiter.specs.Laws.{command_of}
use Rattle.ddr_channel.specs.declared.channel.Channel.TheInside.{Inside}
use Rattle.ddr_channel.specs.Choice.{choice_of}
use Rattle.ddr_channel.specs.Issue.{IsReadyFor, IsStoredFor}
use Rattle.ddr_channel.specs.Room.{needs_memory, wants_memory}
use Rattle.ddr_channel.specs.View.{kept_of}
use Rattle.ddr_channel.proofs.CycleLemmas.{choosing}

-- an entry takes its own room
pub entry_takes : (c : Command) (old new : legality.Kept) → new.bus ≡ recorded c old.bus → new.spare + 1 ≡ old.spare → new.spare + length new.bus.trace ≡ old.spare + length old.bus.trace
entry_takes c old new bus spare =
    let longer : length new.bus.trace ≡ length old.bus.trace + 1 = ap (λ (b : Bus). length b.trace) bus ∙ length-append old.bus.trace (entry old.bus.now c ∷ []) in
    omega (arith, longer, spare)

-- what the cycle's command needs, the channel's next cycle wants
pub wanted : (a : Inside) (ch : Choice) (o : Option Command) → ch ≡ choice_of (choosing a) → o ≡ command_of a.pending.waiting ch → IsTrue (option_map_or (needs_memory a.config.geometry a.legality.spare a.rows) o false) → IsTrue (wants_memory (kept_of a))
wanted a ch o is command needs =
    subst (λ (x : Option Command). IsTrue (option_map_or (needs_memory a.config.geometry a.legality.spare a.rows) x false)) (command ∙ ap (command_of a.pending.waiting) is) needs

-- what is ready stays so where the same rows are stored
pub ready_kept : (shape : Geometry) (spare : ℕ) (old new : Rows) (o : Option Command) → ((b r : ℕ) → is_stored new b r ≡ is_stored old b r) → IfSome o (IsReadyFor shape spare old) → IfSome o (IsReadyFor shape spare new)
ready_kept shape spare old new None same ready = tt
ready_kept shape spare old new (Some c) same ready = record { room = ready.room; stored = by_command c ready.stored }
  where
    by_command : (d : Command) → IsStoredFor shape old d → IsStoredFor shape new d
    by_command (Act rank group bank row) stored = same (bank_number shape rank group bank) row ∙ stored
    by_command (Rd rank group bank row line) stored = tt
    by_command (Wr rank group bank row line) stored = tt
    by_command (RdAuto rank group bank row line) stored = tt
    by_command (WrAuto rank group bank row line) stored = tt
    by_command (Pre rank group bank) stored = tt
    by_command (PreAll rank) stored = tt
    by_command (Refresh rank) stored = tt
