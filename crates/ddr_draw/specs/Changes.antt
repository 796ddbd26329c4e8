-- What changes in the picture of a trace, and when: the command bus, the data bus and the banks.
use Rattle.std.specs.Prelude.{ℕ, Bool, false, ◌&&◌, ◌||◌, ◌==◌, nat_lt, nat_le, max, if◌then◌else◌, List, [], ◌∷◌, ◌++◌, Option, Some, None}
use Rattle.std.specs.List.{find}
use Rattle.ddr_timing.specs.declared.config.Config.{Config}
use Rattle.ddr_timing.specs.declared.timing.Timing.{Timing}
use Rattle.ddr_timing.specs.declared.units.TheConstants.{BURST_CLOCKS}
use Rattle.ddr_trace.specs.declared.command.Command.{Command}
use Rattle.ddr_trace.specs.declared.command.Entry.{Entry}
use Rattle.ddr_trace.specs.Banks.{recovery}
use Rattle.ddr_trace.specs.Commands.{is_activate, is_auto, is_column, is_precharge, is_same_bank}
use Rattle.ddr_trace.specs.Rules.{is_in, latency}
use Rattle.ddr_draw.specs.declared.change.Change.{Change}
use Rattle.ddr_draw.specs.declared.change.Shown.{Shown}
use Rattle.ddr_draw.specs.declared.change.Shown.TheVariants.{Named, Quiet, Burst, Free, Open, Idle, End}
use Rattle.ddr_draw.specs.Names.{after}

abbrev pub change : ℕ → Shown → Change
change cycle shown = record { cycle = cycle; shown = shown }

-- the command is one that ends what the ACT opened: a precharge of its bank, with a read or a write or without, or the next ACT
abbrev pub is_closing : Command → Command → Bool
is_closing act command = is_same_bank command act && (is_activate command || is_precharge command || is_auto command)

-- the bank of the ACT closes at the precharge; an auto-precharge starts by itself when its own command and the ACT allow one
abbrev pub closed_by : Timing → Entry → Entry → ℕ
closed_by t act e =
    if is_auto e.command then max (after e.cycle (recovery t e.command)) (after act.cycle t.ras)
    else e.cycle

-- the cycle at which the ACT's row is closed, by the entries behind it; none where it stays open
abbrev pub closed_at_of : Timing → Entry → Option Entry → Option ℕ
closed_at_of t act None = None
closed_at_of t act (Some e) = Some (closed_by t act e)

abbrev pub next_closing : Command → List Entry → Option Entry
next_closing act later = find (λ e. is_closing act e.command) later

unfoldable pub closed_at : Timing → Entry → List Entry → Option ℕ
closed_at t act later = closed_at_of t act (next_closing act.command later)

abbrev pub idle_at : Command → Option ℕ → List Change
idle_at act None = []
idle_at act (Some cycle) = change cycle (Idle act) ∷ []

-- the bank of an ACT: open at its cycle, idle once its row is closed
unfoldable pub bank_changes : Config → Entry → List Entry → List Change
bank_changes c e later =
    if is_activate e.command && is_in c.geometry e.command then change e.cycle (Open e.command) ∷ idle_at e.command (closed_at c.timing e later)
    else []

-- the data of a read or a write come CL or CWL clocks behind it
abbrev pub burst_start : Timing → Entry → ℕ
burst_start t e = after e.cycle (latency t e.command)

abbrev pub burst_end : Timing → Entry → ℕ
burst_end t e = after (burst_start t e) BURST_CLOCKS

-- another burst begins before that one ends, or right then
abbrev pub is_followed : Timing → Entry → Option Entry → Bool
is_followed t e None = false
is_followed t e (Some next) = nat_lt (burst_start t e) (burst_start t next) && nat_le (burst_start t next) (burst_end t e)

abbrev pub next_column : List Entry → Option Entry
next_column later = find (λ e. is_column e.command) later

-- a burst is on the bus until its end, or until that of the next read or write begins
abbrev pub burst_until_of : Timing → Entry → Option Entry → ℕ
burst_until_of t e None = burst_end t e
burst_until_of t e (Some next) = if is_followed t e (Some next) then burst_start t next else burst_end t e

abbrev pub burst_until : Timing → Entry → List Entry → ℕ
burst_until t e later = burst_until_of t e (next_column later)

-- the data bus: a burst until its end, or until that of the next read or write begins
unfoldable pub data_changes : Timing → Entry → List Entry → List Change
data_changes t e later =
    if is_column e.command then change (burst_start t e) (Burst e.command)
    ∷ (if is_followed t e (next_column later) then [] else change (burst_end t e) Free ∷ [])
    else []

-- the next command stands right behind this one
abbrev pub is_next_at : ℕ → List Entry → Bool
is_next_at cycle [] = false
is_next_at cycle (e ∷ es) = e.cycle == cycle

-- the command bus: a command in its cycle, and none in the next unless the next command stands there
unfoldable pub bus_changes : Entry → List Entry → List Change
bus_changes e later =
    change e.cycle (Named e.command)
    ∷ (if is_next_at (after e.cycle 1) later then [] else change (after e.cycle 1) Quiet ∷ [])

-- all that an entry changes, by the entries behind it
unfoldable pub entry_changes : Config → Entry → List Entry → List Change
entry_changes c e later = bus_changes e later ++ (data_changes c.timing e later ++ bank_changes c e later)

-- all that a trace changes, entry by entry
abbrev pub changes_of : Config → List Entry → List Change
changes_of c [] = []
changes_of c (e ∷ later) = entry_changes c e later ++ changes_of c later

-- and its end, at which nothing changes, but up to which the picture goes
unfoldable pub all_changes : Config → ℕ → List Entry → List Change
all_changes c end entries = changes_of c entries ++ change end End ∷ []
