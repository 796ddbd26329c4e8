-- Turns of the data bus: each read and write is compared with the one before it, whatever its rank and bank.
use Rattle.std.specs.Prelude.{ℕ, Bool, false, not, ◌&&◌, if◌then◌else◌, List, Option, Some, None, fold}
use Rattle.ddr_trace.specs.declared.command.Command.{Command}
use Rattle.ddr_trace.specs.declared.command.Entry.{Entry}
use Rattle.ddr_trace.specs.Commands.{is_column, is_same_kind, is_same_rank}
use Rattle.ddr_statistics.specs.Counts.{count_behind}

-- the last read or write of the history
unfoldable pub last_column : List Entry → Option Command
last_column history = fold (λ last e. if is_column e.command then Some e.command else last) None history

-- there is an earlier one, and the two aren't alike
abbrev pub is_unlike : (Command → Command → Bool) → Option Command → Command → Bool
is_unlike alike None command = false
is_unlike alike (Some last) command = not (alike last command)

-- a read behind a write, or a write behind a read
abbrev pub is_turn_round : List Entry → Entry → Bool
is_turn_round before e = is_column e.command && is_unlike is_same_kind (last_column before) e.command

-- a read or a write behind one of another rank
abbrev pub is_rank_switch : List Entry → Entry → Bool
is_rank_switch before e = is_column e.command && is_unlike is_same_rank (last_column before) e.command

abbrev pub turn_rounds : List Entry → ℕ
turn_rounds history = count_behind is_turn_round history

abbrev pub rank_switches : List Entry → ℕ
rank_switches history = count_behind is_rank_switch history
