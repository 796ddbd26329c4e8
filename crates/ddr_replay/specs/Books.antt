-- What is noted of what a round tells.
use Rattle.std.specs.Prelude.{ℕ, ◌==◌, if◌then◌else◌, List, fold, Option, Some, None}
use Rattle.std.specs.Option.{option_map_or}
use Rattle.ddr_channel.specs.declared.issued.Issued.{Issued}
use Rattle.ddr_counting.specs.Noting as counting
use Rattle.ddr_counting.specs.Noting.{finding_at}
use Rattle.ddr_rounds.specs.declared.told.Told.{Told}
use Rattle.ddr_rounds.specs.declared.told.Told.TheVariants as tell
use Rattle.ddr_statistics.specs.Visits.{finding}
use Rattle.ddr_trace.specs.declared.command.Entry.{Entry}
use Rattle.ddr_world.specs.Promise.{trace_at}
use Rattle.ddr_world.specs.State.{State}
use Rattle.ddr_replay.specs.declared.books.Books.{Books}
use Rattle.ddr_ledger.specs.Ledgers.{Ledger, with_command, with_found}

-- ---- how a request finds its bank, by the commands that its channel had before the round, and what a command waited for

abbrev pub found_told : State → Ledger → Told → Ledger
found_told s ledger (tell.Issued c i) =
    with_command c i.entry (option_map_or (λ v. with_found v.port v.number i.entry.command (finding (trace_at s c) i.entry.command) ledger) i.served ledger)
found_told s ledger _ = ledger

abbrev pub all_found : State → List Told → Ledger → Ledger
all_found s told ledger = fold (found_told s) ledger told

-- ---- the books, by what was counted

abbrev pub with_issued : ℕ → Issued → Books → Books
with_issued c i books = record books { ledger = option_map_or (λ v. with_found v.port v.number i.entry.command (finding_at books.noting c i.entry.command) books.ledger) i.served books.ledger }

-- the newest command of the channel that is asked for
abbrev pub newest_of : ℕ → Entry → Option ℕ → Option Entry → Option Entry
newest_of c e None newest = newest
newest_of c e (Some watched) newest = if watched == c then Some e else newest

abbrev pub with_newest : ℕ → Entry → Books → Books
with_newest c e books = record books { newest = newest_of c e books.watched books.newest }

-- what the command waited for
abbrev pub with_waited : ℕ → Entry → Books → Books
with_waited c e books = record books { ledger = with_command c e books.ledger }

abbrev pub heard : Books → Told → Books
heard books (tell.Issued c i) = record (with_newest c i.entry (with_waited c i.entry (with_issued c i books))) { noting = counting.heard books.noting (tell.Issued c i) }
heard books _ = books
