-- A number of the tables, of all ports and of all channels.
use Rattle.std.proofs.Common.{◌≡◌, ◌+◌, ◌∙◌, ℕ, List, [], Option, Some, None, refl, sym, arith}
use Rattle.std.specs.List.{slice_get, sum_by}
use Rattle.std.specs.Option.{option_map_or}
use Rattle.ddr_timing.specs.declared.config.Config.{Config}
use Rattle.ddr_trace.specs.declared.command.Entry.{Entry}
use Rattle.ddr_statistics.specs.declared.counts.Counts.{Counts}
use Rattle.ddr_statistics.specs.Counts.{count_behind, counts_of, found_count, is_any, is_rd, is_rda, is_wr, is_wra, kind_count}
use Rattle.ddr_statistics.specs.Noted.{no_counts, raised}
use Rattle.ddr_statistics.specs.Visits.{is_conflict, is_hit, is_miss}
use Rattle.ddr_world.specs.Promise.{trace_at}
use Rattle.ddr_world.specs.State.{ChannelSide, State}
use Rattle.ddr_ledger.specs.declared.numbers.Numbers.{Numbers}
use Rattle.ddr_ledger.specs.declared.rows.Rows.{Rows}
use Rattle.ddr_ledger.specs.Numbers.{added, no_numbers, numbers_at, numbers_in, numbers_of, together, with_numbers}
use Rattle.ddr_ledger.specs.Rows.{all_rows, both_rows, no_rows}
use Rattle.ddr_replay.specs.Runs.{Run}
use Rattle.ddr_replay_counts.proofs.HistoryLemmas.{Test}
use Rattle.ddr_replay_counts.proofs.PartLemmas.{all_passed}
use Rattle.ddr_replay_counts.proofs.RowLemmas.{IsCounter}
use Rattle.ddr_replay_counts.proofs.RunLemmas.{AreEven}
use Rattle.ddr_replay_counts.proofs.SumLemmas.{all_together, over, over_each, over_range, stopped}

-- ---- the ports

-- one of the numbers of all ports together
pub ports_count : (row : Rows → ℕ) (test : Test) → IsCounter row test → ((a b : Rows) → row (both_rows a b) ≡ raised (row b) (row a))
    → (config : Config) (last : Run) → AreEven config last
    → row (all_rows last.ledger.rows) ≡ stopped (all_passed test config.geometry.channels last.state)
ports_count row test counter joined config last is =
    let none : row no_rows ≡ 0 = counter.none_yet in
    let sum : row (all_rows last.ledger.rows) ≡ stopped (row no_rows + sum_by row last.ledger.rows) =
    all_together row both_rows joined last.ledger.rows no_rows (omega (arith, none)) in
    omega (arith, none, sum, is.even row test counter)

-- ---- the channels

-- one of the counts of a trace
pub record IsCount (count : Counts → ℕ) (of : List Entry → ℕ) : Type 0 where
  pub joined : (a b : Counts) → count (added a b) ≡ raised (count b) (count a)
  pub told : (history : List Entry) → count (counts_of is_any history) ≡ of history
  pub none : count no_counts ≡ 0
  pub none_of : of [] ≡ 0

trace_count : (count : Counts → ℕ) (of : List Entry → ℕ) → IsCount count of → (o : Option ChannelSide)
    → count (option_map_or (λ (side : ChannelSide). numbers_in side.channel.config side.channel.now side.channel.trace) o no_numbers).counts
    ≡ of (option_map_or (λ (side : ChannelSide). side.channel.trace) o [])
unfolding numbers_in
trace_count count of is None = is.none ∙ sym is.none_of
trace_count count of is (Some side) = is.told side.channel.trace

-- of all channels together
pub channels_count : (count : Counts → ℕ) (of : List Entry → ℕ) → IsCount count of → (s : State) (channels : ℕ)
    → count (together (numbers_of s channels)).counts ≡ stopped (over (λ c. of (trace_at s c)) channels)
channels_count count of is s channels =
    let number : Numbers → ℕ = λ n. count n.counts in
    let none : number no_numbers ≡ 0 = is.none in
    let sum : number (together (numbers_of s channels)) ≡ stopped (number no_numbers + sum_by number (numbers_of s channels)) =
    all_together number with_numbers (λ a b. is.joined a.counts b.counts) (numbers_of s channels) no_numbers (omega (arith, none)) in
    let range : sum_by number (numbers_of s channels) ≡ over (λ c. number (numbers_at s c)) channels =
    over_range number (numbers_at s) channels in
    let each : over (λ c. number (numbers_at s c)) channels ≡ over (λ c. of (trace_at s c)) channels =
    over_each (λ c. of (trace_at s c)) (λ c. number (numbers_at s c)) channels (λ c. trace_count count of is (slice_get s.channels c)) in
    omega (arith, none, sum, range, each)

-- rows that were found so

pub hits_counted : IsCount (λ counts. counts.row_hits) (found_count is_hit is_any)
unfolding added counts_of count_behind
hits_counted = record { joined = λ a b. refl; told = λ history. refl; none = refl; none_of = refl }

pub misses_counted : IsCount (λ counts. counts.row_misses) (found_count is_miss is_any)
unfolding added counts_of count_behind
misses_counted = record { joined = λ a b. refl; told = λ history. refl; none = refl; none_of = refl }

pub conflicts_counted : IsCount (λ counts. counts.row_conflicts) (found_count is_conflict is_any)
unfolding added counts_of count_behind
conflicts_counted = record { joined = λ a b. refl; told = λ history. refl; none = refl; none_of = refl }

pub reads_counted : IsCount (λ counts. counts.reads) (kind_count is_rd is_any)
unfolding added counts_of kind_count
reads_counted = record { joined = λ a b. refl; told = λ history. refl; none = refl; none_of = refl }

pub reads_auto_counted : IsCount (λ counts. counts.reads_auto) (kind_count is_rda is_any)
unfolding added counts_of kind_count
reads_auto_counted = record { joined = λ a b. refl; told = λ history. refl; none = refl; none_of = refl }

pub writes_counted : IsCount (λ counts. counts.writes) (kind_count is_wr is_any)
unfolding added counts_of kind_count
writes_counted = record { joined = λ a b. refl; told = λ history. refl; none = refl; none_of = refl }

pub writes_auto_counted : IsCount (λ counts. counts.writes_auto) (kind_count is_wra is_any)
unfolding added counts_of kind_count
writes_auto_counted = record { joined = λ a b. refl; told = λ history. refl; none = refl; none_of = refl }
