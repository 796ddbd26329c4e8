-- What a broken rule rests on, kind of rule by kind of rule. A history is all that stands before the entry, oldest first.
use Rattle.std.specs.Prelude.{◌≡◌, ℕ, ◌+◌, ◌-◌, ◌*◌, ◌/◌, ◌%◌, ◌<◌, ◌≤◌, Bool, true, false, not, ◌&&◌, ◌||◌, nat_lt, if◌then◌else◌, List, length, Option, Some, None, slice_get}
use Rattle.std.specs.Bool.{MatchBool}
use Rattle.std.specs.Option.{option_map_or}
use Rattle.ddr_timing.specs.declared.config.Config.{Config}
use Rattle.ddr_timing.specs.declared.geometry.Geometry.{Geometry}
use Rattle.ddr_timing.specs.declared.timing.Timing.{Timing}
use Rattle.ddr_timing.specs.declared.units.TheConstants.{GROUP_BANKS, LINE_COLUMNS}
use Rattle.ddr_trace.specs.declared.bank.OpenBank.{OpenBank}
use Rattle.ddr_trace.specs.declared.command.Command.{Command}
use Rattle.ddr_trace.specs.declared.command.Command.TheVariants.{Rd, Wr, RdAuto, WrAuto, PreAll, Refresh}
use Rattle.ddr_trace.specs.declared.command.Entry.{Entry}
use Rattle.ddr_trace.specs.declared.rule.Rule.{Rule}
use Rattle.ddr_trace.specs.declared.rule.Rule.TheVariants as rule
use Rattle.ddr_trace.specs.Banks.{any_bank, auto_start, bank_behind, is_active, is_auto_within}
use Rattle.ddr_trace.specs.Commands.{bank_of, group_of, is_activate, is_column, is_refresh, rank_of, row_of}
use Rattle.ddr_trace.specs.Rules.{last_cycle_below, refresh_count}
use Rattle.ddr_evidence.specs.declared.evidence.Evidence.{Evidence}
use Rattle.ddr_evidence.specs.declared.evidence.Evidence.TheVariants.{TooClose, TooCloseToStart, Bank, NotAbove, BeforeStart, NotBeforeEnd, Outside, TooFar, Late}
use Rattle.ddr_evidence.specs.declared.evidence.Placed.{Placed}
use Rattle.ddr_evidence.specs.declared.evidence.Part.{Part}
use Rattle.ddr_evidence.specs.declared.evidence.Part.TheVariants as part
use Rattle.ddr_evidence.specs.declared.state.BankTest.{BankTest}
use Rattle.ddr_evidence.specs.declared.state.BankTest.TheVariants.{Active, WithinStart}
use Rattle.ddr_evidence.specs.Places.{IsLast, IsLastChange, bank_at, breaks_from, changes_at, least_of}

-- The last earlier entry that breaks the rule together with the present one, and the clocks between the two.
pub record IsFrom (t : Timing) (r : Rule) (history : List Entry) (e : Entry) (earlier : Placed) (distance : ℕ) : Type 0 where
  pub there : slice_get history earlier.place ≡ Some earlier.entry
  pub nearest : IsLast (breaks_from t r history e) earlier.place
  pub clocks : distance ≡ e.cycle - earlier.entry.cycle

abbrev pub IsPair : Timing → Rule → List Entry → Entry → Evidence → Type 0
IsPair t r history e (TooClose earlier distance least) =
    IsFrom t r history e earlier distance × (least ≡ least_of t r earlier.entry.command e.command)
IsPair t r history e _ = ⊥

abbrev pub IsGap : Timing → List Entry → Entry → Evidence → Type 0
IsGap t history e (TooFar earlier distance) = IsFrom t rule.RefGap history e earlier distance
IsGap t history e _ = ⊥

-- ORDER: the entry before has no lower cycle, or else the entry lies before the trace's start, or else not before its end.
abbrev pub IsNotAbove : List Entry → Entry → Placed → Type 0
IsNotAbove history e earlier =
    (slice_get history earlier.place ≡ Some earlier.entry) × (earlier.place + 1 ≡ length history) × (e.cycle ≤ earlier.entry.cycle)

abbrev pub IsOrder : ℕ → ℕ → List Entry → Entry → Evidence → Type 0
IsOrder start end history e (NotAbove earlier) = IsNotAbove history e earlier
IsOrder start end history e BeforeStart = (last_cycle_below history e.cycle ≡ true) × (e.cycle < start)
IsOrder start end history e NotBeforeEnd = (last_cycle_below history e.cycle ≡ true) × (start ≤ e.cycle) × (end ≤ e.cycle)
IsOrder start end history e _ = ⊥

-- the numbers of a command
abbrev pub is_of_one_bank : Command → Bool
is_of_one_bank (PreAll rank) = false
is_of_one_bank (Refresh rank) = false
is_of_one_bank _ = true

abbrev pub line_in : Command → Option ℕ
line_in (Rd rank group bank row line) = Some line
line_in (Wr rank group bank row line) = Some line
line_in (RdAuto rank group bank row line) = Some line
line_in (WrAuto rank group bank row line) = Some line
line_in _ = None

abbrev pub number_in : Part → Command → Option ℕ
number_in part.Rank command = Some (rank_of command)
number_in part.Group command = if is_of_one_bank command then Some (group_of command) else None
number_in part.Bank command = if is_of_one_bank command then Some (bank_of command) else None
number_in part.Row command = if is_activate command || is_column command then Some (row_of command) else None
number_in part.Line command = line_in command

abbrev pub bound_of : Geometry → Part → ℕ
bound_of g part.Rank = g.ranks
bound_of g part.Group = g.groups
bound_of g part.Bank = GROUP_BANKS
bound_of g part.Row = g.rows
bound_of g part.Line = g.columns / LINE_COLUMNS

abbrev pub is_outside : Geometry → Command → Part → Bool
is_outside g command p = option_map_or (λ number. not (nat_lt number (bound_of g p))) (number_in p command) false

-- the first number that passes a test
abbrev pub first_part : (Part → Bool) → Option Part
first_part test =
    if test part.Rank then Some part.Rank
    else if test part.Group then Some part.Group
    else if test part.Bank then Some part.Bank
    else if test part.Row then Some part.Row
    else if test part.Line then Some part.Line
    else None

abbrev pub first_outside : Geometry → Command → Option Part
first_outside g command = first_part (is_outside g command)

-- PLACE: the first number of the command that is not below its bound.
abbrev pub IsOutside : Geometry → Command → Evidence → Type 0
IsOutside g command (Outside p number bound) =
    (first_outside g command ≡ Some p) × (number_in p command ≡ Some number) × (bound ≡ bound_of g p) × (bound ≤ number)
IsOutside g command _ = ⊥

-- REF_LATE: so many REFs came, and the next one was due before the cycle.
abbrev pub IsLate : Timing → ℕ → ℕ → ℕ → Evidence → Type 0
IsLate t start cycle count (Late refreshes due) = (refreshes ≡ count) × (due ≡ start + (refreshes + 9) * t.refi) × (due < cycle)
IsLate t start cycle count _ = ⊥

-- REF_LATE at the trace's end: the first rank whose next REF was due before it.
abbrev pub is_late_at : Config → ℕ → ℕ → List Entry → ℕ → Bool
is_late_at c start end entries rank = nat_lt (start + (refresh_count entries (Refresh rank) + 9) * c.timing.refi) end

pub record IsLateAtEnd (c : Config) (start end : ℕ) (entries : List Entry) (rank refreshes due : ℕ) : Type 0 where
  pub inside : rank < c.geometry.ranks
  pub late : IsLate c.timing start end (refresh_count entries (Refresh rank)) (Late refreshes due)
  pub first : (other : ℕ) → other < rank → is_late_at c start end entries other ≡ false

-- STATE and ROW: the bank of the entry, as the history and its last change there left it.
abbrev pub IsOwnBank : List Entry → Entry → Evidence → Type 0
IsOwnBank history e (Bank group bank opened changed) =
    (group ≡ group_of e.command) × (bank ≡ bank_of e.command)
    × (opened ≡ bank_behind e.command history) × IsLastChange e.command history changed
IsOwnBank history e _ = ⊥

-- what a REF wants of no bank of its rank
abbrev pub bank_test : BankTest → Timing → ℕ → Option OpenBank → Bool
bank_test Active t cycle bank = is_active t cycle bank
bank_test WithinStart t cycle bank = is_auto_within t t.rp cycle bank

-- of the rank's banks that pass the test behind the history, the one of the lowest number
pub record IsFirstBank (c : Config) (test : Option OpenBank → Bool) (rank : ℕ) (history : List Entry) (number : ℕ) : Type 0 where
  pub inside : number < c.geometry.groups * GROUP_BANKS
  pub passes : test (bank_behind (bank_at rank number) history) ≡ true
  pub first : (other : ℕ) → other < number → test (bank_behind (bank_at rank other) history) ≡ false

-- STATE of a REF: the first bank that is active, as its last change left it
abbrev pub IsActiveBank : Config → List Entry → Entry → Evidence → Type 0
IsActiveBank c history e (Bank group bank opened changed) =
    (number : ℕ) × (group ≡ number / GROUP_BANKS) × (bank ≡ number % GROUP_BANKS)
    × IsFirstBank c (is_active c.timing e.cycle) (rank_of e.command) history number
    × (opened ≡ bank_behind (bank_at (rank_of e.command) number) history)
    × IsLastChange (bank_at (rank_of e.command) number) history changed
IsActiveBank c history e _ = ⊥

abbrev pub IsState : Config → List Entry → Entry → Evidence → Type 0
IsState c history e evidence = MatchBool (is_refresh e.command) (IsActiveBank c history e evidence) (IsOwnBank history e evidence)

-- RP and RP_REF: the bank's last change is an RDA or WRA, and the entry stands too close behind its start.
pub record IsStart (t : Timing) (bank : Command) (history : List Entry) (e : Entry) (earlier : Placed) (distance least : ℕ) (opened : OpenBank) (auto : Entry) : Type 0 where
  pub stands : bank_behind bank history ≡ Some opened
  pub closing : opened.auto ≡ Some auto
  pub there : slice_get history earlier.place ≡ Some earlier.entry
  pub changed : IsLast (changes_at bank history) earlier.place
  pub close : e.cycle < auto_start t opened auto + least
  pub clocks : distance ≡ e.cycle - auto_start t opened auto
  pub asked : least ≡ t.rp

abbrev pub IsStartOf : Timing → Command → List Entry → Entry → Evidence → Type 0
IsStartOf t bank history e (TooCloseToStart earlier distance least) =
    (opened : OpenBank) × (auto : Entry) × IsStart t bank history e earlier distance least opened auto
IsStartOf t bank history e _ = ⊥

-- of the bank of the lowest number in its rank that has such an auto-precharge
abbrev pub IsStartOfRank : Config → List Entry → Entry → Evidence → Type 0
IsStartOfRank c history e evidence =
    (number : ℕ) × IsFirstBank c (is_auto_within c.timing c.timing.rp e.cycle) (rank_of e.command) history number
    × IsStartOf c.timing (bank_at (rank_of e.command) number) history e evidence

-- the entry stands too close behind the start of an auto-precharge of its bank, or of its rank
abbrev pub is_behind_start : Timing → List Entry → Entry → Bool
is_behind_start t history e = is_activate e.command && is_auto_within t t.rp e.cycle (bank_behind e.command history)

abbrev pub is_behind_start_of_rank : Config → List Entry → Entry → Bool
is_behind_start_of_rank c history e =
    is_refresh e.command && any_bank c.geometry (rank_of e.command) (λ bank. is_auto_within c.timing c.timing.rp e.cycle (bank_behind bank history))

-- RP and RP_REF tell the start of an auto-precharge where there is one to tell, as it is the later one of its bank, and else
-- the precharge.
abbrev pub IsRp : Timing → List Entry → Entry → Evidence → Type 0
IsRp t history e evidence =
    MatchBool (is_behind_start t history e) (IsStartOf t e.command history e evidence) (IsPair t rule.Rp history e evidence)

abbrev pub IsRpRef : Config → List Entry → Entry → Evidence → Type 0
IsRpRef c history e evidence =
    MatchBool (is_behind_start_of_rank c history e) (IsStartOfRank c history e evidence) (IsPair c.timing rule.RpRef history e evidence)

-- what the entry's breaking of the rule rests on, in a trace of this start and end
abbrev pub IsEvidence : Config → ℕ → ℕ → Rule → List Entry → Entry → Evidence → Type 0
IsEvidence c start end rule.Order history e evidence = IsOrder start end history e evidence
IsEvidence c start end rule.Place history e evidence = IsOutside c.geometry e.command evidence
IsEvidence c start end rule.State history e evidence = IsState c history e evidence
IsEvidence c start end rule.Row history e evidence = IsOwnBank history e evidence
IsEvidence c start end rule.Rp history e evidence = IsRp c.timing history e evidence
IsEvidence c start end rule.RpRef history e evidence = IsRpRef c history e evidence
IsEvidence c start end rule.RefLate history e evidence = IsLate c.timing start e.cycle (refresh_count history e.command) evidence
IsEvidence c start end rule.RefGap history e evidence = IsGap c.timing history e evidence
IsEvidence c start end r history e evidence = IsPair c.timing r history e evidence
