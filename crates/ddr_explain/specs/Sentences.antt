-- The sentence of a broken rule, kind of evidence by kind of evidence. Each ends with a line feed.
use Rattle.std.specs.Prelude.{ℕ, ◌-◌, ◌*◌, List, [], ◌∷◌, ◌++◌, codes, Option, Some, None, is_some, if◌then◌else◌}
use Rattle.std.specs.Fmt.{decimal}
use Rattle.ddr_timing.specs.declared.config.Config.{Config}
use Rattle.ddr_timing.specs.declared.timing.Timing.{Timing}
use Rattle.ddr_timing.specs.declared.units.TheConstants.{LINE_COLUMNS}
use Rattle.ddr_trace.specs.declared.bank.OpenBank.{OpenBank}
use Rattle.ddr_trace.specs.declared.command.Command.{Command}
use Rattle.ddr_trace.specs.declared.command.Command.TheVariants.{Act, Refresh}
use Rattle.ddr_trace.specs.declared.command.Entry.{Entry}
use Rattle.ddr_trace.specs.declared.rule.Rule.{Rule}
use Rattle.ddr_trace.specs.declared.rule.Rule.TheVariants as rule
use Rattle.ddr_trace.specs.Banks.{auto_start, row_until}
use Rattle.ddr_trace.specs.Commands.{rank_of, row_of}
use Rattle.ddr_evidence.specs.declared.evidence.Evidence.{Evidence}
use Rattle.ddr_evidence.specs.declared.evidence.Evidence.TheVariants.{TooClose, TooCloseToStart, Bank, NotAbove, BeforeStart, NotBeforeEnd, Outside, TooFar, Late}
use Rattle.ddr_evidence.specs.declared.evidence.Part.{Part}
use Rattle.ddr_evidence.specs.declared.evidence.Part.TheVariants as part
use Rattle.ddr_evidence.specs.declared.evidence.Placed.{Placed}
use Rattle.ddr_explain.specs.Limits.{limit_text}
use Rattle.ddr_explain.specs.Names.{at_text, clocks_text, label_of, line_of}

-- what the earlier one is beside its name
abbrev pub aside_of : Rule → List ℕ
aside_of rule.Faw = codes ", the fourth ACT before it"
aside_of _ = []

-- too close behind an earlier command
unfoldable pub close_text : Timing → Rule → ℕ → Entry → Placed → ℕ → ℕ → List ℕ
close_text t r place e earlier distance least =
    at_text place e ++ (codes " is " ++ (clocks_text distance ++ (codes " behind " ++ (at_text earlier.place earlier.entry ++ (aside_of r
    ++ (codes ": " ++ (label_of r ++ (codes " wants " ++ (limit_text t r earlier.entry.command e.command
    ++ (codes " = " ++ (decimal least ++ 10 ∷ [])))))))))))

-- too close behind the start of an auto-precharge
unfoldable pub start_text : Rule → ℕ → Entry → Placed → ℕ → ℕ → List ℕ
start_text r place e earlier distance least =
    at_text place e ++ (codes " is " ++ (clocks_text distance ++ (codes " behind the start of the auto-precharge of "
    ++ (at_text earlier.place earlier.entry ++ (codes ": " ++ (label_of r ++ (codes " wants rp = " ++ (decimal least ++ 10 ∷ []))))))))

-- a bank that a row was opened of, as its last change left it
unfoldable pub row_text : ℕ → List ℕ
row_text row = codes "active with row " ++ decimal row

unfoldable pub changed_text : Timing → ℕ → OpenBank → Placed → Option Entry → List ℕ
changed_text t cycle bank p None = row_text bank.row ++ (codes " since " ++ at_text p.place p.entry)
changed_text t cycle bank p (Some auto) =
    if is_some (row_until t cycle bank (Some auto))
    then row_text bank.row ++ (codes ", which " ++ (at_text p.place p.entry ++ codes " is to close"))
    else codes "idle since the auto-precharge of " ++ (at_text p.place p.entry ++ (codes ", "
    ++ (clocks_text (cycle - auto_start t bank auto) ++ codes " before")))

-- what a bank is in a cycle, and since which entry
unfoldable pub bank_text : Timing → ℕ → Option OpenBank → Option Placed → List ℕ
bank_text t cycle None None = codes "idle, with no ACT of it before"
bank_text t cycle None (Some p) = codes "idle since " ++ at_text p.place p.entry
bank_text t cycle (Some bank) None = row_text bank.row
bank_text t cycle (Some bank) (Some p) = changed_text t cycle bank p bank.auto

-- what the command wants of a bank: by ROW its own row, and by STATE what kind of command it is
abbrev pub state_wanted : Command → List ℕ
state_wanted (Act rank group bank row) = codes "an idle bank"
state_wanted (Refresh rank) = codes "every bank of its rank idle"
state_wanted _ = codes "an active bank that no RDA or WRA is to close"

unfoldable pub wanted_text : Rule → Command → List ℕ
wanted_text rule.Row command = codes "row " ++ (decimal (row_of command) ++ codes " active")
wanted_text _ command = state_wanted command

-- a bank in another state than is wanted
unfoldable pub state_text : Timing → Rule → ℕ → Entry → ℕ → ℕ → Option OpenBank → Option Placed → List ℕ
state_text t r place e group bank opened changed =
    at_text place e ++ (codes " finds bank " ++ (decimal bank ++ (codes " of group " ++ (decimal group ++ (codes " of rank "
    ++ (decimal (rank_of e.command) ++ (codes " " ++ (bank_text t e.cycle opened changed
    ++ (codes ": " ++ (label_of r ++ (codes " wants " ++ (wanted_text r e.command ++ 10 ∷ []))))))))))))

-- a cycle that is not where it should be
unfoldable pub not_above_text : ℕ → Entry → Placed → List ℕ
not_above_text place e earlier =
    at_text place e ++ (codes " is not behind " ++ (at_text earlier.place earlier.entry ++ (codes ": ORDER wants rising cycles" ++ 10 ∷ [])))

unfoldable pub before_start_text : ℕ → ℕ → Entry → List ℕ
before_start_text start place e =
    at_text place e ++ (codes " is before the start: ORDER wants cycle " ++ (decimal start ++ (codes " or a later one" ++ 10 ∷ [])))

unfoldable pub not_before_end_text : ℕ → ℕ → Entry → List ℕ
not_before_end_text end place e =
    at_text place e ++ (codes " is not before the end: ORDER wants a cycle below " ++ (decimal end ++ 10 ∷ []))

-- a number of a command, as the trace's text has it: a line by its first column
abbrev pub part_name : Part → List ℕ
part_name part.Rank = codes "rank"
part_name part.Group = codes "group"
part_name part.Bank = codes "bank"
part_name part.Row = codes "row"
part_name part.Line = codes "col"

abbrev pub bound_name : Part → List ℕ
bound_name part.Rank = codes "ranks"
bound_name part.Group = codes "groups"
bound_name part.Bank = codes "the banks of a group"
bound_name part.Row = codes "rows"
bound_name part.Line = codes "columns"

abbrev pub in_text_of : Part → ℕ → ℕ
in_text_of part.Line number = LINE_COLUMNS * number
in_text_of _ number = number

unfoldable pub outside_text : ℕ → Entry → Part → ℕ → ℕ → List ℕ
outside_text place e p number bound =
    at_text place e ++ (codes " has " ++ (part_name p ++ (codes " " ++ (decimal (in_text_of p number)
    ++ (codes ": PLACE (addressing) wants it below " ++ (bound_name p ++ (codes " = " ++ (decimal (in_text_of p bound) ++ 10 ∷ []))))))))

-- a REF too far behind the one before
unfoldable pub far_text : Timing → ℕ → Entry → Placed → ℕ → List ℕ
far_text t place e earlier distance =
    at_text place e ++ (codes " is " ++ (clocks_text distance ++ (codes " behind " ++ (at_text earlier.place earlier.entry
    ++ (codes ", the REF of its rank before it: REF_GAP (tREFI) wants at most 9 * refi = 9 * " ++ (decimal t.refi
    ++ (codes " = " ++ (decimal (9 * t.refi) ++ 10 ∷ []))))))))

-- a REF, or the trace's end, behind the deadline of the rank's next REF
unfoldable pub due_text : Timing → ℕ → ℕ → ℕ → ℕ → List ℕ
due_text t start rank refreshes due =
    codes " comes behind " ++ (decimal refreshes ++ (codes " REFs of rank " ++ (decimal rank
    ++ (codes ": REF_LATE (tREFI) wants it by cycle start + (REFs + 9) * refi = " ++ (decimal start ++ (codes " + (" ++ (decimal refreshes
    ++ (codes " + 9) * " ++ (decimal t.refi ++ (codes " = " ++ (decimal due ++ 10 ∷ [])))))))))))

unfoldable pub late_text : Timing → ℕ → ℕ → Entry → ℕ → ℕ → List ℕ
late_text t start place e refreshes due = at_text place e ++ due_text t start (rank_of e.command) refreshes due

unfoldable pub end_late_text : Timing → ℕ → ℕ → ℕ → ℕ → ℕ → ℕ → List ℕ
end_late_text t start end place rank refreshes due =
    codes "END at cycle " ++ (decimal end ++ (codes " (line " ++ (decimal (line_of place) ++ (codes ")" ++ due_text t start rank refreshes due))))

-- the sentence of an entry that breaks a rule, by what that rests on
unfoldable pub sentence_text : Config → ℕ → ℕ → Rule → ℕ → Entry → Evidence → List ℕ
sentence_text c start end r place e (TooClose earlier distance least) = close_text c.timing r place e earlier distance least
sentence_text c start end r place e (TooCloseToStart earlier distance least) = start_text r place e earlier distance least
sentence_text c start end r place e (Bank group bank opened changed) = state_text c.timing r place e group bank opened changed
sentence_text c start end r place e (NotAbove earlier) = not_above_text place e earlier
sentence_text c start end r place e BeforeStart = before_start_text start place e
sentence_text c start end r place e NotBeforeEnd = not_before_end_text end place e
sentence_text c start end r place e (Outside p number bound) = outside_text place e p number bound
sentence_text c start end r place e (TooFar earlier distance) = far_text c.timing place e earlier distance
sentence_text c start end r place e (Late refreshes due) = late_text c.timing start place e refreshes due
