-- The numbers of the rows of ports, as commands are told.
use Rattle.std.proofs.Common.{◌≡◌, ◌<◌, ◌+◌, ◌∙◌, ℕ, Bool, true, false, cond, ◌&&◌, not, List, [], ◌∷◌, length, Option, Some, None, IfSome, is_some, length-set, refl, sym, ap, subst, arith}
use Rattle.std.specs.List.{AllByRecursion, slice_index_or, slice_set, sum_by}
use Rattle.std.specs.Option.{option_map_or}
use Rattle.ddr_trace.specs.declared.command.Command.{Command}
use Rattle.ddr_trace.specs.declared.command.Entry.{Entry}
use Rattle.ddr_trace.specs.Commands.{bank_of, group_of, is_column, is_read, rank_of}
use Rattle.ddr_statistics.specs.declared.counts.Finding.{Finding}
use Rattle.ddr_statistics.specs.Noted.{raised_if}
use Rattle.ddr_statistics.specs.Visits.{finding, is_conflict, is_hit, is_miss, visit_behind}
use Rattle.ddr_channel.specs.declared.issued.Issued.{Issued}
use Rattle.ddr_channel.specs.declared.issued.Served.{Served}
use Rattle.ddr_world.specs.Promise.{trace_at}
use Rattle.ddr_world.specs.State.{State}
use Rattle.ddr_rounds.specs.declared.told.Told.{Told}
use Rattle.ddr_rounds.specs.declared.told.Told.TheVariants as tell
use Rattle.ddr_ledger.specs.declared.rows.RowCounts.{RowCounts}
use Rattle.ddr_ledger.specs.declared.rows.Rows.{Rows}
use Rattle.ddr_ledger.specs.Ledgers.{Ledger, found_at, with_column, with_finding, with_found}
use Rattle.ddr_ledger.specs.Rows.{column_counted, found_counted, no_counts, no_rows}
use Rattle.ddr_replay.specs.Books.{all_found, found_told}
use Rattle.ddr_replay_counts.proofs.GainLemmas.{IsToldOf, gain, gains}
use Rattle.ddr_replay_counts.proofs.HistoryLemmas.{Test, read_so, write_so}
use Rattle.ddr_replay_counts.proofs.SumLemmas.{counted_if, stopped, sum_grows_if}

-- one of the numbers of rows, and the reads or writes that it counts
pub record IsCounter (row : Rows → ℕ) (test : Test) : Type 0 where
  pub none_yet : row no_rows ≡ 0
  pub counted : (command : Command) (found : Option Finding) (rows : Rows)
      → row (column_counted command found rows) ≡ raised_if (test command found) (row rows)
  pub column : (command : Command) → test command None ≡ false

-- and one of those of reads alone, or of writes
record IsNumber (number : RowCounts → ℕ) (so : Option Finding → Bool) : Type 0 where
  none_yet : number no_counts ≡ 0
  counted : (found : Option Finding) (counts : RowCounts) → number (found_counted found counts) ≡ raised_if (so found) (number counts)
  column : so None ≡ false

none_passes : (of so : Bool) → so ≡ false → (of && so) ≡ false
none_passes true so none = none
none_passes false so none = refl

reads_by : (number : RowCounts → ℕ) (so : Option Finding → Bool) → IsNumber number so → (of : Bool) (found : Option Finding) (rows : Rows)
    → number
    (cond of (record rows { reads = found_counted found rows.reads }) (record rows { writes = found_counted found rows.writes })).reads
    ≡ raised_if (of && so found) (number rows.reads)
reads_by number so is true found rows = is.counted found rows.reads
reads_by number so is false found rows = refl

writes_by : (number : RowCounts → ℕ) (so : Option Finding → Bool) → IsNumber number so → (of : Bool) (found : Option Finding) (rows : Rows)
    → number
    (cond of (record rows { reads = found_counted found rows.reads }) (record rows { writes = found_counted found rows.writes })).writes
    ≡ raised_if (not of && so found) (number rows.writes)
writes_by number so is true found rows = refl
writes_by number so is false found rows = is.counted found rows.writes

reads_counter : (number : RowCounts → ℕ) (so : Option Finding → Bool) → IsNumber number so
    → IsCounter (λ rows. number rows.reads) (read_so so)
reads_counter number so is = record {
  none_yet = is.none_yet;
  counted = λ command found rows. reads_by number so is (is_read command) found rows;
  column = λ command. none_passes (is_read command) (so None) is.column;
}

writes_counter : (number : RowCounts → ℕ) (so : Option Finding → Bool) → IsNumber number so
    → IsCounter (λ rows. number rows.writes) (write_so so)
writes_counter number so is = record {
  none_yet = is.none_yet;
  counted = λ command found rows. writes_by number so is (is_read command) found rows;
  column = λ command. none_passes (not (is_read command)) (so None) is.column;
}

are_hits : IsNumber (λ counts. counts.hits) is_hit
are_hits = record { none_yet = refl; counted = λ found counts. refl; column = refl }

are_misses : IsNumber (λ counts. counts.misses) is_miss
are_misses = record { none_yet = refl; counted = λ found counts. refl; column = refl }

are_conflicts : IsNumber (λ counts. counts.conflicts) is_conflict
are_conflicts = record { none_yet = refl; counted = λ found counts. refl; column = refl }

pub read_hits : IsCounter (λ rows. rows.reads.hits) (read_so is_hit)
read_hits = reads_counter (λ counts. counts.hits) is_hit are_hits

pub read_misses : IsCounter (λ rows. rows.reads.misses) (read_so is_miss)
read_misses = reads_counter (λ counts. counts.misses) is_miss are_misses

pub read_conflicts : IsCounter (λ rows. rows.reads.conflicts) (read_so is_conflict)
read_conflicts = reads_counter (λ counts. counts.conflicts) is_conflict are_conflicts

pub write_hits : IsCounter (λ rows. rows.writes.hits) (write_so is_hit)
write_hits = writes_counter (λ counts. counts.hits) is_hit are_hits

pub write_misses : IsCounter (λ rows. rows.writes.misses) (write_so is_miss)
write_misses = writes_counter (λ counts. counts.misses) is_miss are_misses

pub write_conflicts : IsCounter (λ rows. rows.writes.conflicts) (write_so is_conflict)
write_conflicts = writes_counter (λ counts. counts.conflicts) is_conflict are_conflicts

-- what a command that is told makes of the rows of all ports

abbrev rows_with : Option Served → Command → Option Finding → List Rows → List Rows
rows_with None command found rows = rows
rows_with (Some v) command found rows = slice_set rows v.port (column_counted command found (slice_index_or rows v.port no_rows))

kept_rows : (keeps : Bool) (found : List (List (Option Finding))) (ledger : Ledger)
    → (cond keeps (record ledger { found = found }) ledger).rows ≡ ledger.rows
kept_rows true found ledger = refl
kept_rows false found ledger = refl

finding_rows : (port number : ℕ) (found : Option Finding) (ledger : Ledger) → (with_finding port number found ledger).rows ≡ ledger.rows
finding_rows port number found ledger =
    kept_rows ledger.keeps (slice_set ledger.found port (slice_set (found_at ledger port) _ found)) ledger

served_rows : (o : Option Served) (command : Command) (found : Option Finding) (ledger : Ledger)
    → (option_map_or (λ v. with_found v.port v.number command found ledger) o ledger).rows ≡ rows_with o command found ledger.rows
served_rows None command found ledger = refl
served_rows (Some v) command found ledger = finding_rows v.port v.number found (with_column v.port command found ledger)

issued_rows : (s : State) (c : ℕ) (i : Issued) (ledger : Ledger)
    → (found_told s ledger (tell.Issued c i)).rows ≡ rows_with i.served i.entry.command (finding (trace_at s c) i.entry.command) ledger.rows
issued_rows s c i ledger = served_rows i.served i.entry.command (finding (trace_at s c) i.entry.command) ledger

-- ---- and all that is told

-- a command that serves no request finds no bank
none_found : (command : Command) (before : List Entry) → is_column command ≡ false → finding before command ≡ None
none_found command before is =
    ap (λ (b : Bool). cond b (Some (visit_behind (rank_of command) (group_of command) (bank_of command) before).next) None) is

served_counted : (row : Rows → ℕ) (test : Test) → IsCounter row test
    → (o : Option Served) (command : Command) (found : Option Finding) (rows : List Rows) (total : ℕ) → (is_some o ≡ false → found ≡ None)
    → IfSome o (λ v. v.port < length rows)
    → stopped (sum_by row rows) ≡ stopped total
    → stopped (sum_by row (rows_with o command found rows)) ≡ stopped (total + counted_if (test command found))
served_counted row test is None command found rows total none inside same =
    let fails : test command found ≡ false = ap (test command) (none refl) ∙ is.column command in
    let nothing : counted_if (test command found) ≡ 0 = ap counted_if fails in
    omega (arith, same, nothing)
served_counted row test is (Some v) command found rows total none inside same =
    sum_grows_if row rows v.port no_rows (column_counted command found (slice_index_or rows v.port no_rows)) (test command found) total
    inside (is.counted command found (slice_index_or rows v.port no_rows)) same

one_counted : (row : Rows → ℕ) (test : Test) → IsCounter row test → (ports : ℕ) (s : State) (x : Told) (ledger : Ledger) (total : ℕ)
    → length ledger.rows ≡ ports → IsToldOf ports x
    → stopped (sum_by row ledger.rows) ≡ stopped total → stopped (sum_by row (found_told s ledger x).rows) ≡ stopped (total + gain test s x)
one_counted row test is ports s (tell.Issued c i) ledger total long told same =
    let command = i.entry.command in
    let found = finding (trace_at s c) command in
    ap (λ (rs : List Rows). stopped (sum_by row rs)) (issued_rows s c i ledger)
    ∙ served_counted row test is i.served command found ledger.rows total (λ none. none_found command (trace_at s c) (sym told.0 ∙ none))
    (subst (λ n. IfSome i.served (λ v. v.port < n)) (sym long) told.1) same
one_counted row test is ports s (tell.Accepted p number) ledger total long told same = omega (arith, same)
one_counted row test is ports s (tell.Refused p cause) ledger total long told same = omega (arith, same)
one_counted row test is ports s (tell.Released p number) ledger total long told same = omega (arith, same)
one_counted row test is ports s (tell.Passed rounds) ledger total long told same = omega (arith, same)

rows_with_long : (o : Option Served) (command : Command) (found : Option Finding) (rows : List Rows)
    → length (rows_with o command found rows) ≡ length rows
rows_with_long None command found rows = refl
rows_with_long (Some v) command found rows = length-set rows v.port (column_counted command found (slice_index_or rows v.port no_rows))

one_long : (s : State) (x : Told) (ledger : Ledger) → length (found_told s ledger x).rows ≡ length ledger.rows
one_long s (tell.Issued c i) ledger =
    ap (λ (rs : List Rows). length rs) (issued_rows s c i ledger)
    ∙ rows_with_long i.served i.entry.command (finding (trace_at s c) i.entry.command) ledger.rows
one_long s (tell.Accepted p number) ledger = refl
one_long s (tell.Refused p cause) ledger = refl
one_long s (tell.Released p number) ledger = refl
one_long s (tell.Passed rounds) ledger = refl

pub told_long : (s : State) (told : List Told) (ledger : Ledger) → length (all_found s told ledger).rows ≡ length ledger.rows
told_long s [] ledger = refl
told_long s (x ∷ more) ledger = told_long s more (found_told s ledger x) ∙ one_long s x ledger

none_more : (n : ℕ) → stopped n ≡ stopped (n + 0)
none_more n = omega arith

and_more : (n one more : ℕ) → stopped (n + one + more) ≡ stopped (n + (one + more))
and_more n one more = omega arith

pub told_counted : (row : Rows → ℕ) (test : Test) → IsCounter row test
    → (ports : ℕ) (s : State) (told : List Told) (ledger : Ledger) (total : ℕ) → length ledger.rows ≡ ports
    → AllByRecursion (IsToldOf ports) told
    → stopped (sum_by row ledger.rows) ≡ stopped total
    → stopped (sum_by row (all_found s told ledger).rows) ≡ stopped (total + gains test s told)
told_counted row test is ports s [] ledger total long all same = same ∙ none_more total
told_counted row test is ports s (x ∷ more) ledger total long all same =
    told_counted row test is ports s more (found_told s ledger x) (total + gain test s x) (one_long s x ledger ∙ long) all.1
    (one_counted row test is ports s x ledger total long all.0 same)
    ∙ and_more total (gain test s x) (gains test s more)
