-- The text of the numbers of a place: lines of a TOML table.
use Rattle.std.specs.Prelude.{ℕ, Bool, ◌&&◌, ◌==◌, List, [], ◌∷◌, ◌++◌, codes}
use Rattle.std.specs.Fmt.{decimal}
use Rattle.ddr_statistics.specs.declared.counts.Counts.{Counts}

-- a line of a key and its number, and what stands behind it
abbrev pub line : List ℕ → ℕ → List ℕ → List ℕ
line key number behind = key ++ (decimal number ++ 10 ∷ behind)

-- the commands that open, close and refresh banks
unfoldable pub banks_lines : Counts → List ℕ
banks_lines counts =
    line (codes "activates = ") counts.activates
    (line (codes "precharges = ") counts.precharges
    (line (codes "precharges_all = ") counts.precharges_all
    (line (codes "refreshes = ") counts.refreshes [])))

-- reads and writes
unfoldable pub columns_lines : Counts → List ℕ
columns_lines counts =
    line (codes "reads = ") counts.reads
    (line (codes "writes = ") counts.writes
    (line (codes "reads_auto = ") counts.reads_auto
    (line (codes "writes_auto = ") counts.writes_auto [])))

-- how they found their banks, and for how long their data were on the bus
unfoldable pub findings_lines : Counts → List ℕ
findings_lines counts =
    line (codes "row_hits = ") counts.row_hits
    (line (codes "row_misses = ") counts.row_misses
    (line (codes "row_conflicts = ") counts.row_conflicts
    (line (codes "busy_clocks = ") counts.busy_clocks [])))

-- the lines of a place
abbrev pub counts_text : Counts → List ℕ
counts_text counts = banks_lines counts ++ columns_lines counts ++ findings_lines counts

-- a bank has no command of its own
abbrev pub is_unused : Counts → Bool
is_unused counts =
    counts.activates == 0 && counts.precharges == 0
    && counts.reads == 0 && counts.writes == 0 && counts.reads_auto == 0 && counts.writes_auto == 0
