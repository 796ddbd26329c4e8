-- The text of a replay's statistics: a TOML document.
use Rattle.std.specs.Prelude.{ℕ, ◌+◌, List, [], ◌∷◌, ◌++◌, codes, slice_index_or}
use Rattle.std.specs.Fmt.{decimal}
use Rattle.ddr_timing.specs.declared.config.Config.{Config}
use Rattle.ddr_statistics.specs.Text.{counts_text, line}
use Rattle.ddr_ledger.specs.declared.numbers.Numbers.{Numbers}
use Rattle.ddr_stream.specs.declared.requests.Requests.{Requests}
use Rattle.ddr_ledger.specs.declared.rows.RowCounts.{RowCounts}
use Rattle.ddr_ledger.specs.declared.rows.Rows.{Rows}
use Rattle.ddr_ledger.specs.declared.waited.Waited.{Waited}
use Rattle.ddr_measure.specs.Text.{thousandths}
use Rattle.ddr_ledger.specs.declared.activity.Activity.{Activity}
use Rattle.ddr_ledger.specs.declared.activity.Held.{Held}
use Rattle.ddr_ledger.specs.Activities.{drains_together}
use Rattle.ddr_ledger.specs.Activity.{mean_of, no_activity}
use Rattle.ddr_ledger.specs.declared.causes.Causes.{Causes}
use Rattle.ddr_ledger.specs.CausesText.{causes_lines}
use Rattle.ddr_ledger.specs.Ledgers.{Ledger, rows_at, waited_at}
use Rattle.ddr_ledger.specs.Places.{debt_line, places_tables}
use Rattle.ddr_ledger.specs.Numbers.{many, numbers_of, together}
use Rattle.ddr_ledger.specs.Rows.{all_rows}
use Rattle.ddr_ledger.specs.Stalls.{Stalled, causes_at, stalls_together}
use Rattle.ddr_replay.specs.Runs.{Run}
use Rattle.ddr_ledger.specs.TimesReport.{ledger_tables}
use Rattle.ddr_ledger.specs.Waited.{all_waited}
use Rattle.ddr_ledger.specs.Windows.{outstanding_at}

unfoldable pub head_text : Config → ℕ → List ℕ
head_text config cycles =
    line (codes "channels = ") config.geometry.channels (line (codes "ports = ") config.limits.ports (line (codes "cycles = ") cycles []))

unfoldable pub requests_lines : Requests → List ℕ
requests_lines requests = line (codes "read_requests = ") requests.reads (line (codes "write_requests = ") requests.writes [])

unfoldable pub waited_lines : Waited → List ℕ
waited_lines waited = line (codes "waited_for_window = ") waited.window (line (codes "waited_for_queue = ") waited.queue [])

-- how those of one kind found their banks, and reads and writes
unfoldable pub counts_lines : List ℕ → RowCounts → List ℕ
counts_lines kind counts =
    kind ++ (codes "_row_hits = " ++ (decimal counts.hits ++ (10 ∷
    (kind ++ (codes "_row_misses = " ++ (decimal counts.misses ++ (10 ∷
    (kind ++ (codes "_row_conflicts = " ++ (decimal counts.conflicts ++ 10 ∷ []))))))))))

unfoldable pub rows_lines : Rows → List ℕ
rows_lines rows = counts_lines (codes "read") rows.reads ++ counts_lines (codes "write") rows.writes

-- of a channel that drained writes in so many cycles
unfoldable pub numbers_lines : ℕ → Numbers → List ℕ
numbers_lines drains numbers =
    line (codes "turn_rounds = ") numbers.turn_rounds (line (codes "rank_switches = ") numbers.rank_switches (line (codes "drain_cycles = ") drains []))
    ++ debt_line numbers.refresh_debt_most ++ counts_text numbers.counts

-- in how many cycles of all channels requests were pending and no command went out
unfoldable pub stalled_line : ℕ → List ℕ
stalled_line stalls = line (codes "stalled_cycles = ") stalls []

unfoldable pub total_table : Requests → Waited → Rows → ℕ → ℕ → Numbers → List ℕ
total_table requests waited rows drains stalls numbers =
    10 ∷ (codes "[total]" ++ 10 ∷ []) ++ requests_lines requests ++ waited_lines waited ++ rows_lines rows ++ numbers_lines drains numbers
    ++ stalled_line stalls

-- how many of these there were in so many cycles: on the mean, and the most
unfoldable pub held_lines : List ℕ → ℕ → Held → List ℕ
held_lines name cycles h = name ++ (codes "_mean = " ++ (thousandths (mean_of cycles h) ++ (10 ∷ (name ++ (codes "_most = " ++ (decimal h.most ++ 10 ∷ []))))))

unfoldable pub activity_lines : ℕ → Activity → List ℕ
activity_lines cycles a =
    held_lines (codes "pending_reads") cycles a.reads ++ held_lines (codes "pending_writes") cycles a.writes ++ held_lines (codes "intake") cycles a.waiting

unfoldable pub channel_table : ℕ → ℕ → Activity → Causes → Numbers → List ℕ
channel_table channel cycles a causes numbers =
    10 ∷ (codes "[channel." ++ (decimal channel ++ (codes "]" ++ 10 ∷ []))) ++ numbers_lines a.drains numbers ++ activity_lines cycles a
    ++ causes_lines causes

unfoldable pub port_table : ℕ → ℕ → Requests → Waited → Rows → Held → List ℕ
port_table port cycles requests waited rows h =
    10 ∷ (codes "[port." ++ (decimal port ++ (codes "]" ++ 10 ∷ []))) ++ requests_lines requests ++ waited_lines waited ++ rows_lines rows
    ++ held_lines (codes "window") cycles h

-- the tables of the channels, of the ports, from this number on
abbrev pub channel_tables : ℕ → ℕ → List Numbers → List Activity → List Stalled → List ℕ
channel_tables cycles channel [] activity stalls = []
channel_tables cycles channel (one ∷ more) activity stalls =
    channel_table channel cycles (slice_index_or activity channel no_activity) (causes_at stalls channel) one ++ channel_tables cycles (channel + 1) more activity stalls

abbrev pub port_tables : ℕ → ℕ → List Requests → Ledger → List ℕ
port_tables cycles port [] ledger = []
port_tables cycles port (one ∷ more) ledger =
    port_table port cycles one (waited_at ledger port) (rows_at ledger port) (outstanding_at ledger port) ++ port_tables cycles (port + 1) more ledger

unfoldable pub report_lines : Config → List Requests → List Numbers → Ledger → ℕ → List ℕ
report_lines config requests numbers ledger cycles =
    head_text config cycles ++ total_table (many requests) (all_waited ledger.waited) (all_rows ledger.rows) (drains_together ledger.activity) (stalls_together ledger.stalls) (together numbers)
    ++ channel_tables cycles 0 numbers ledger.activity ledger.stalls ++ port_tables cycles 0 requests ledger ++ ledger_tables ledger

-- the statistics of a replay of so many requests that came to this run
abbrev pub report_text : Config → List Requests → Run → List ℕ
report_text config requests run =
    report_lines config requests (numbers_of run.state config.geometry.channels) run.ledger run.round
    ++ places_tables run.state config.geometry.channels
