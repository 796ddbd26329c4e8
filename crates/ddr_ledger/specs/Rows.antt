-- How the reads and the writes of ports found their banks.
use Rattle.std.specs.Prelude.{if◌then◌else◌, List, fold, Option}
use Rattle.ddr_statistics.specs.Noted.{raised, raised_if}
use Rattle.ddr_statistics.specs.Visits.{is_conflict, is_hit, is_miss}
use Rattle.ddr_statistics.specs.declared.counts.Finding.{Finding}
use Rattle.ddr_trace.specs.Commands.{is_read}
use Rattle.ddr_trace.specs.declared.command.Command.{Command}
use Rattle.ddr_ledger.specs.declared.rows.RowCounts.{RowCounts}
use Rattle.ddr_ledger.specs.declared.rows.Rows.{Rows}

abbrev pub no_counts : RowCounts
no_counts = record { hits = 0; misses = 0; conflicts = 0 }

abbrev pub no_rows : Rows
no_rows = record { reads = no_counts; writes = no_counts }

-- one more, which found its bank so
abbrev pub found_counted : Option Finding → RowCounts → RowCounts
found_counted found counts = record {
  hits = raised_if (is_hit found) counts.hits;
  misses = raised_if (is_miss found) counts.misses;
  conflicts = raised_if (is_conflict found) counts.conflicts;
}

-- a read or a write more
abbrev pub column_counted : Command → Option Finding → Rows → Rows
column_counted command found rows =
    if is_read command then record rows { reads = found_counted found rows.reads } else record rows { writes = found_counted found rows.writes }

-- two ports together, and several
abbrev pub counts_together : RowCounts → RowCounts → RowCounts
counts_together a b = record { hits = raised b.hits a.hits; misses = raised b.misses a.misses; conflicts = raised b.conflicts a.conflicts }

abbrev pub both_rows : Rows → Rows → Rows
both_rows a b = record { reads = counts_together a.reads b.reads; writes = counts_together a.writes b.writes }

abbrev pub all_rows : List Rows → Rows
all_rows rows = fold both_rows no_rows rows
