-- The text of the bound on a request's time: a table of a TOML document.
use Rattle.std.specs.Prelude.{ℕ, Bool, if◌then◌else◌, List, [], ◌∷◌, ◌++◌, codes}
use Rattle.std.specs.Fmt.{decimal}
use Rattle.ddr_timing.specs.declared.config.Config.{Config}
use Rattle.ddr_latency.specs.Bound.{burst, latency, leaves_room, most_pending, most_refreshes, refreshed}
use Rattle.ddr_latency.specs.Latency.{clocks_of, leaves_time, service}

abbrev pub word : Bool → List ℕ
word is = if is then codes "true" else codes "false"

-- a line of a key and its number, and what stands behind it
abbrev pub line : List ℕ → ℕ → List ℕ → List ℕ
line key number behind = key ++ (decimal number ++ 10 ∷ behind)

-- whether the bound is proved, and whether refreshes leave time to serve a request
unfoldable pub head_lines : Config → List ℕ
head_lines c =
    codes "[bound]" ++ 10 ∷ (codes "proved = " ++ (word (leaves_room c) ++ 10 ∷ (codes "leaves_time = " ++ (word (leaves_time c) ++ 10 ∷ []))))

-- the bound itself, where it is proved
unfoldable pub clocks_line : Config → List ℕ
clocks_line c = if leaves_room c then line (codes "clocks = ") (latency c) [] else []

-- what is made up of the requests that are pending
unfoldable pub pending_lines : Config → List ℕ
pending_lines c =
    line (codes "cap = ") c.limits.cap
    (line (codes "pending = ") (most_pending c)
    (line (codes "service = ") (service (clocks_of c)) []))

-- what is made up of refreshes, and of the request's own data
unfoldable pub refreshes_lines : Config → List ℕ
refreshes_lines c =
    line (codes "refreshes = ") (most_refreshes c)
    (line (codes "refreshed = ") (refreshed c)
    (line (codes "burst = ") (burst c) []))

abbrev pub bound_text : Config → List ℕ
bound_text c = head_lines c ++ clocks_line c ++ pending_lines c ++ refreshes_lines c
