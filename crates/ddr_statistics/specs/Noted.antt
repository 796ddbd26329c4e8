-- What is kept after a command.
use Rattle.std.specs.Prelude.{ℕ, ◌+◌, ◌-◌, ◌*◌, ◌^◌, Bool, ◌&&◌, ◌||◌, ◌==◌, not, max, min, if◌then◌else◌, List, map, replicate, Option, Some, None, slice_index_or, slice_set}
use Rattle.ddr_timing.specs.declared.geometry.Geometry.{Geometry}
use Rattle.ddr_timing.specs.declared.timing.Timing.{Timing}
use Rattle.ddr_timing.specs.declared.units.TheConstants.{BURST_CLOCKS, GROUP_BANKS}
use Rattle.ddr_trace.specs.declared.command.Command.{Command}
use Rattle.ddr_trace.specs.declared.command.Command.TheVariants.{PreAll, Refresh}
use Rattle.ddr_trace.specs.declared.command.Entry.{Entry}
use Rattle.ddr_trace.specs.Banks.{recovery}
use Rattle.ddr_trace.specs.Commands.{bank_of, group_of, is_activate, is_auto, is_column, is_of_all_banks, is_precharge, is_refresh, is_same_kind, is_same_rank}
use Rattle.ddr_statistics.specs.declared.background.Activity.{Activity}
use Rattle.ddr_statistics.specs.declared.background.Background.{Background}
use Rattle.ddr_statistics.specs.declared.bank.Bank.{Bank}
use Rattle.ddr_statistics.specs.declared.counts.Counts.{Counts}
use Rattle.ddr_statistics.specs.declared.counts.Finding.{Finding}
use Rattle.ddr_statistics.specs.declared.debt.Debt.{Debt}
use Rattle.ddr_statistics.specs.declared.rank.Rank.{Rank}
use Rattle.ddr_statistics.specs.declared.rank.TheConstants.{MOST_BANKS}
use Rattle.ddr_statistics.specs.declared.turns.Turns.{Turns}
use Rattle.ddr_statistics.specs.Counts.{is_pre, is_rd, is_rda, is_wr, is_wra}
use Rattle.ddr_statistics.specs.Debts.{due_in, most_of}
use Rattle.ddr_statistics.specs.Turns.{is_unlike}
use Rattle.ddr_statistics.specs.Visits.{first_visit, is_conflict, is_hit, is_miss, visit_after}

-- a number that stops at the last one that a u64 holds
abbrev pub raised : ℕ → ℕ → ℕ
raised by number = min (number + by) (2 ^ 64 - 1)

abbrev pub raised_if : Bool → ℕ → ℕ
raised_if passes number = if passes then raised 1 number else number

abbrev pub no_counts : Counts
no_counts = record {
  activates = 0;
  precharges = 0;
  precharges_all = 0;
  reads = 0;
  writes = 0;
  reads_auto = 0;
  writes_auto = 0;
  refreshes = 0;
  row_hits = 0;
  row_misses = 0;
  row_conflicts = 0;
  busy_clocks = 0;
}

-- the numbers of a place after a command of it
abbrev pub kind_noted : Command → Counts → Counts
kind_noted command counts = record counts {
  activates = raised_if (is_activate command) counts.activates;
  precharges = raised_if (is_pre command) counts.precharges;
  precharges_all = raised_if (is_of_all_banks command) counts.precharges_all;
  reads = raised_if (is_rd command) counts.reads;
  writes = raised_if (is_wr command) counts.writes;
  reads_auto = raised_if (is_rda command) counts.reads_auto;
  writes_auto = raised_if (is_wra command) counts.writes_auto;
  refreshes = raised_if (is_refresh command) counts.refreshes;
}

abbrev pub found_noted : Option Finding → Counts → Counts
found_noted found counts = record counts {
  row_hits = raised_if (is_hit found) counts.row_hits;
  row_misses = raised_if (is_miss found) counts.row_misses;
  row_conflicts = raised_if (is_conflict found) counts.row_conflicts;
}

abbrev pub busy_noted : Command → Counts → Counts
busy_noted command counts = record counts {
  busy_clocks = if is_column command then raised BURST_CLOCKS counts.busy_clocks else counts.busy_clocks;
}

unfoldable pub counts_noted : Command → Option Finding → Counts → Counts
counts_noted command found counts = busy_noted command (found_noted found (kind_noted command counts))

-- a bank after a command of it alone, and after a PREA
abbrev pub bank_noted : Command → Option Finding → Bank → Bank
bank_noted command found bank = record { visit = visit_after command bank.visit; counts = counts_noted command found bank.counts }

abbrev pub bank_closed : Command → Bank → Bank
bank_closed command bank = record bank { visit = visit_after command bank.visit }

abbrev pub new_bank : Bank
new_bank = record { visit = first_visit; counts = no_counts }

abbrev pub bank_at : Rank → ℕ → ℕ → Bank
bank_at rank group bank = slice_index_or rank.banks (group * GROUP_BANKS + bank) new_bank

-- how a command of the rank finds its bank, if it is a read or a write
abbrev pub found_in : Rank → Command → Option Finding
found_in rank command = if is_column command then Some (bank_at rank (group_of command) (bank_of command)).visit.next else None

-- a rank's banks after a command of it
abbrev pub one_noted : Command → Option Finding → ℕ → ℕ → List Bank → List Bank
one_noted command found group bank banks =
    slice_set banks (group * GROUP_BANKS + bank) (bank_noted command found (slice_index_or banks (group * GROUP_BANKS + bank) new_bank))

abbrev pub banks_noted : Command → Option Finding → List Bank → List Bank
banks_noted (PreAll rank) found banks = map (bank_closed (PreAll rank)) banks
banks_noted (Refresh rank) found banks = banks
banks_noted command found banks = one_noted command found (group_of command) (bank_of command) banks

abbrev pub rank_noted : Command → Option Finding → Rank → Rank
rank_noted command found rank = record { counts = counts_noted command found rank.counts; banks = banks_noted command found rank.banks }

abbrev pub no_turns : Turns
no_turns = record { last = None; turn_rounds = 0; rank_switches = 0 }

-- the data bus after a command
abbrev pub turns_noted : Command → Turns → Turns
turns_noted command turns = record {
  last = if is_column command then Some command else turns.last;
  turn_rounds = raised_if (is_column command && is_unlike is_same_kind turns.last command) turns.turn_rounds;
  rank_switches = raised_if (is_column command && is_unlike is_same_rank turns.last command) turns.rank_switches;
}

abbrev pub no_debt : Debt
no_debt = record { paid = 0; most = 0 }

-- a rank's refreshes after a REF, where so many fell due, and after any command of it
abbrev pub debt_paid : ℕ → Debt → Debt
debt_paid due debt = record { paid = raised 1 debt.paid; most = max debt.most (due - debt.paid) }

abbrev pub debt_noted : ℕ → ℕ → Entry → Debt → Debt
debt_noted refi start e debt = if is_refresh e.command then debt_paid (due_in refi start e.cycle) debt else debt

abbrev pub new_rank : Rank
new_rank = record { counts = no_counts; banks = replicate MOST_BANKS new_bank }

-- a bank that is closed
abbrev pub no_activity : Activity
no_activity = record { since = 0; until = 0 }

-- where an auto-precharge starts, by the cycle of its bank's ACT
abbrev pub auto_until : Timing → ℕ → Entry → ℕ
auto_until t since auto = max (raised (recovery t auto.command) auto.cycle) (raised t.ras since)

-- when a bank is active after a command of it
abbrev pub activity_noted : Timing → Entry → Activity → Activity
activity_noted t e bank =
    if is_activate e.command then record { since = e.cycle; until = 2 ^ 64 - 1 }
    else if is_precharge e.command then no_activity
    else if is_auto e.command && not (bank.until == 0) then record bank { until = auto_until t bank.since e }
    else bank

abbrev pub new_background : ℕ → Background
new_background start = record {
  counted_to = start;
  active = 0;
  refresh = 0;
  active_until = 0;
  refresh_until = 0;
  banks = replicate MOST_BANKS no_activity;
}

-- the clocks of a rank before a cycle, if no command of it comes
abbrev pub active_to : Background → ℕ → ℕ
active_to kept end = raised (min kept.active_until end - kept.counted_to) kept.active

abbrev pub refresh_to : Background → ℕ → ℕ
refresh_to kept end = raised (min kept.refresh_until end - max kept.counted_to kept.active_until) kept.refresh

-- with what comes before a cycle counted
abbrev pub counted_before : ℕ → Background → Background
counted_before cycle kept = record kept {
  counted_to = max kept.counted_to cycle;
  active = active_to kept cycle;
  refresh = refresh_to kept cycle;
}

-- the cycle from which on no bank of the geometry is active
abbrev pub latest_until : Geometry → List Activity → ℕ
latest_until g banks = most_of (λ n. (slice_index_or banks n no_activity).until) (g.groups * GROUP_BANKS)

-- the command opens or closes a bank, or all of its rank
abbrev pub opens_or_closes : Command → Bool
opens_or_closes command = is_activate command || is_precharge command || is_auto command

-- when the banks of a rank are active after a command of it
abbrev pub one_activity_noted : Timing → Entry → ℕ → List Activity → List Activity
one_activity_noted t e number banks = slice_set banks number (activity_noted t e (slice_index_or banks number no_activity))

abbrev pub activities_noted : Timing → Entry → List Activity → List Activity
activities_noted t e banks =
    if is_of_all_banks e.command then replicate MOST_BANKS no_activity
    else if opens_or_closes e.command then one_activity_noted t e (group_of e.command * GROUP_BANKS + bank_of e.command) banks
    else banks

-- with what a command of the rank opens, closes or refreshes
abbrev pub followed : Timing → Geometry → Entry → Background → Background
followed t g e kept = record kept {
  active_until = if opens_or_closes e.command then latest_until g (activities_noted t e kept.banks) else kept.active_until;
  refresh_until = if is_refresh e.command then max kept.refresh_until (raised t.rfc e.cycle) else kept.refresh_until;
  banks = activities_noted t e kept.banks;
}

-- a rank's clocks after a command of it
abbrev pub background_noted : Timing → Geometry → Entry → Background → Background
background_noted t g e kept = followed t g e (counted_before e.cycle kept)
