-- How a read or a write finds its bank: told by the bank's earlier commands.
use Rattle.std.specs.Prelude.{ℕ, Bool, true, false, if◌then◌else◌, List, Option, Some, None, fold}
use Rattle.ddr_trace.specs.declared.command.Command.{Command}
use Rattle.ddr_trace.specs.declared.command.Command.TheVariants.{Act, Rd, Wr, RdAuto, WrAuto, Pre, PreAll, Refresh}
use Rattle.ddr_trace.specs.declared.command.Entry.{Entry}
use Rattle.ddr_trace.specs.Commands.{bank_of, group_of, is_column, is_same_bank, rank_of}
use Rattle.ddr_statistics.specs.declared.bank.Visit.{Visit}
use Rattle.ddr_statistics.specs.declared.counts.Finding.{Finding}
use Rattle.ddr_statistics.specs.declared.counts.Finding.TheVariants.{Hit, Miss, Conflict}

-- before the first command of a bank
abbrev pub first_visit : Visit
first_visit = record { closed_by_pre = false; next = Miss }

-- What a command of the bank makes of its next read or write. Behind an ACT that is a conflict where a PRE closed the bank
-- last, else a miss; behind a read or a write it is a hit. PRE, PREA and auto-precharge close the bank.
abbrev pub visit_after : Command → Visit → Visit
visit_after (Act rank group bank row) visit = record visit { next = if visit.closed_by_pre then Conflict else Miss }
visit_after (Rd rank group bank row line) visit = record visit { next = Hit }
visit_after (Wr rank group bank row line) visit = record visit { next = Hit }
visit_after (RdAuto rank group bank row line) visit = record { closed_by_pre = false; next = Hit }
visit_after (WrAuto rank group bank row line) visit = record { closed_by_pre = false; next = Hit }
visit_after (Pre rank group bank) visit = record visit { closed_by_pre = true }
visit_after (PreAll rank) visit = record visit { closed_by_pre = false }
visit_after (Refresh rank) visit = visit

-- the command is of the bank, as a PREA is of each bank of its rank
abbrev pub is_at : ℕ → ℕ → ℕ → Command → Bool
is_at rank group bank command = is_same_bank command (Pre rank group bank)

-- what the history makes of the bank
unfoldable pub visit_behind : ℕ → ℕ → ℕ → List Entry → Visit
visit_behind rank group bank history =
    fold (λ visit e. if is_at rank group bank e.command then visit_after e.command visit else visit) first_visit history

-- how a command finds its bank behind the history, if it is a read or a write
abbrev pub finding : List Entry → Command → Option Finding
finding history command =
    if is_column command then Some (visit_behind (rank_of command) (group_of command) (bank_of command) history).next else None

abbrev pub is_hit : Option Finding → Bool
is_hit (Some Hit) = true
is_hit _ = false

abbrev pub is_miss : Option Finding → Bool
is_miss (Some Miss) = true
is_miss _ = false

abbrev pub is_conflict : Option Finding → Bool
is_conflict (Some Conflict) = true
is_conflict _ = false
