-- The text of how long requests took: TOML tables.
use Rattle.std.specs.Prelude.{ℕ, ◌+◌, List, [], ◌∷◌, ◌++◌, codes, flat_map}
use Rattle.std.specs.Fmt.{decimal}
use Rattle.ddr_statistics.specs.Text.{line}
use Rattle.ddr_ledger.specs.declared.times.Latency.{Latency}
use Rattle.ddr_ledger.specs.declared.times.Times.{Times}
use Rattle.ddr_ledger.specs.declared.times.Waits.{Waits}
use Rattle.ddr_ledger.specs.Ledgers.{Ledger}
use Rattle.ddr_ledger.specs.Times.{bound_of}

-- the numbers of a list, one behind the other
abbrev pub numbers_list : List ℕ → List ℕ
numbers_list [] = []
numbers_list (first ∷ more) = decimal first ++ flat_map (λ n. codes ", " ++ decimal n) more

unfoldable pub histogram_line : List ℕ → List ℕ
histogram_line histogram = codes "histogram = [" ++ (numbers_list histogram ++ (codes "]" ++ 10 ∷ []))

unfoldable pub latency_lines : Latency → List ℕ
latency_lines latency =
    line (codes "count = ") latency.count
    (line (codes "clocks = ") latency.clocks
    (line (codes "least = ") latency.least
    (line (codes "most = ") latency.most [])))

-- bounds that so many in a hundred requests don't pass
unfoldable pub bounds_lines : Latency → List ℕ
bounds_lines latency =
    line (codes "p50_at_most = ") (bound_of 50 latency)
    (line (codes "p90_at_most = ") (bound_of 90 latency)
    (line (codes "p99_at_most = ") (bound_of 99 latency) []))

-- the table of the requests of one kind of an owner, between two steps of theirs
unfoldable pub latency_table : List ℕ → List ℕ → List ℕ → Latency → List ℕ
latency_table owner kind span latency =
    10 ∷ (codes "[" ++ (owner ++ (codes "." ++ (kind ++ (codes "." ++ (span ++ (codes "]" ++ 10 ∷ [])))))))
    ++ latency_lines latency ++ bounds_lines latency ++ histogram_line latency.histogram

unfoldable pub waits_tables : List ℕ → List ℕ → Waits → List ℕ
waits_tables owner kind waits =
    latency_table owner kind (codes "accepted_to_issued") waits.to_issue ++ latency_table owner kind (codes "accepted_to_released") waits.to_release

unfoldable pub times_tables : List ℕ → Times → List ℕ
times_tables owner times = waits_tables owner (codes "read") times.reads ++ waits_tables owner (codes "write") times.writes

-- those of the ports, from this number on
abbrev pub ports_times : ℕ → List Times → List ℕ
ports_times port [] = []
ports_times port (one ∷ more) = times_tables (codes "port." ++ decimal port) one ++ ports_times (port + 1) more

-- those of all ports together, and of each
unfoldable pub ledger_tables : Ledger → List ℕ
ledger_tables ledger = times_tables (codes "total") ledger.total ++ ports_times 0 ledger.ports
