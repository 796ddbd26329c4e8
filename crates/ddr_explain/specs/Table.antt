-- The table of a trace's faults: a head, a line for each fault, and a comment for each broken rule.
use Rattle.std.specs.Prelude.{◌≡◌, ℕ, ◌==◌, if◌then◌else◌, List, [], ◌∷◌, ◌++◌, length, take, flat_map, count_by, codes, Option, Some, slice_get, MatchOption}
use Rattle.std.specs.Fmt.{decimal}
use Rattle.std.specs.Str.{bytes_eq}
use Rattle.ddr_timing.specs.declared.config.Config.{Config}
use Rattle.ddr_trace.specs.declared.checker.Fault.{Fault}
use Rattle.ddr_trace.specs.declared.command.Command.{Command}
use Rattle.ddr_trace.specs.declared.command.Entry.{Entry}
use Rattle.ddr_trace.specs.declared.rule.Rule.{Rule}
use Rattle.ddr_trace.specs.declared.rule.TheConstants.Rule.{ALL}
use Rattle.ddr_trace.specs.Commands.{bank_of, group_of, rank_of}
use Rattle.ddr_trace.specs.Names.{name_of}
use Rattle.ddr_evidence.specs.declared.evidence.Evidence.{Evidence}
use Rattle.ddr_evidence.specs.declared.evidence.Evidence.TheVariants.{TooClose, TooCloseToStart, Bank, NotAbove, TooFar}
use Rattle.ddr_evidence.specs.declared.evidence.Placed.{Placed}
use Rattle.ddr_evidence.specs.Evidence.{IsEvidence, IsLateAtEnd, is_of_one_bank}
use Rattle.ddr_explain.specs.AllFaults.{all_faults, told_of}
use Rattle.ddr_explain.specs.Names.{line_of}
use Rattle.ddr_trace.specs.Names.{command_name}

-- the fields `rank,group,bank`: of a bank
unfoldable pub bank_fields : ℕ → ℕ → ℕ → List ℕ
bank_fields rank group bank = decimal rank ++ (codes "," ++ (decimal group ++ (codes "," ++ decimal bank)))

-- or of a command, where PREA and REF are of no one bank
unfoldable pub command_fields : Command → List ℕ
command_fields command =
    if is_of_one_bank command then bank_fields (rank_of command) (group_of command) (bank_of command)
    else decimal (rank_of command) ++ codes ",,"

-- the bank that is in another state than is wanted, and else the command's
abbrev pub place_fields : Command → Evidence → List ℕ
place_fields command (Bank group bank opened changed) = bank_fields (rank_of command) group bank
place_fields command _ = command_fields command

-- the fields `earlier_line,earlier_cycle`
unfoldable pub earlier_fields : Placed → List ℕ
earlier_fields p = decimal (line_of p.place) ++ (codes "," ++ decimal p.entry.cycle)

-- the fields `earlier_line,earlier_cycle,distance,least`, as far as there are such
unfoldable pub distance_fields : Placed → ℕ → ℕ → List ℕ
distance_fields earlier distance least =
    earlier_fields earlier ++ (codes "," ++ (decimal distance ++ (codes "," ++ decimal least)))

unfoldable pub evidence_fields : Evidence → List ℕ
evidence_fields (TooClose earlier distance least) = distance_fields earlier distance least
evidence_fields (TooCloseToStart earlier distance least) = distance_fields earlier distance least
evidence_fields (Bank group bank opened (Some changed)) = earlier_fields changed ++ codes ",,"
evidence_fields (NotAbove earlier) = earlier_fields earlier ++ codes ",,"
evidence_fields (TooFar earlier distance) = earlier_fields earlier ++ (codes "," ++ (decimal distance ++ codes ","))
evidence_fields _ = codes ",,,"

-- the line of an entry that breaks a rule, by what that rests on
unfoldable pub entry_line : Rule → ℕ → Entry → Evidence → List ℕ
entry_line r place e evidence =
    decimal (line_of place) ++ (codes "," ++ (decimal e.cycle ++ (codes "," ++ (command_name e.command ++ (codes ","
    ++ (place_fields e.command evidence ++ (codes "," ++ (name_of r ++ (codes "," ++ (evidence_fields evidence ++ 10 ∷ []))))))))))

-- the line of a trace's end that is late, by the first rank that it is late for
unfoldable pub end_line : ℕ → ℕ → ℕ → List ℕ
end_line place end rank =
    decimal (line_of place) ++ (codes "," ++ (decimal end ++ (codes ",END," ++ (decimal rank ++ codes ",,,REF_LATE,,,,\n"))))

-- the line is that of evidence that the entry breaks the rule behind its history
pub record IsEntryLine (c : Config) (start end : ℕ) (r : Rule) (history : List Entry) (place : ℕ) (line : List ℕ) (e : Entry) : Type 0 where
  pub evidence : Evidence
  pub rests : IsEvidence c start end r history e evidence
  pub told : line ≡ entry_line r place e evidence

-- or that the trace's end breaks REF_LATE
pub record IsEndLine (c : Config) (start end : ℕ) (entries : List Entry) (line : List ℕ) : Type 0 where
  pub rank : ℕ
  pub refreshes : ℕ
  pub due : ℕ
  pub rests : IsLateAtEnd c start end entries rank refreshes due
  pub told : line ≡ end_line (length entries) end rank

abbrev pub IsLine : Config → ℕ → ℕ → List Entry → Fault → List ℕ → Type 0
IsLine c start end entries fault line =
    MatchOption (slice_get entries fault.place) (IsEndLine c start end entries line)
    (IsEntryLine c start end fault.rule (take fault.place entries) fault.place line)

-- a line for each fault, in their order
abbrev pub AreLines : Config → ℕ → ℕ → List Entry → List Fault → List (List ℕ) → Type 0
AreLines c start end entries [] [] = Unit {0}
AreLines c start end entries (fault ∷ faults) (line ∷ lines) =
    IsLine c start end entries fault line × AreLines c start end entries faults lines
AreLines c start end entries _ _ = ⊥

-- the text has these lines, and no others
pub record IsTable (c : Config) (start end : ℕ) (entries : List Entry) (faults : List Fault) (text : List ℕ) : Type 0 where
  pub lines : List (List ℕ)
  pub each : AreLines c start end entries faults lines
  pub whole : text ≡ flat_map (λ line. line) lines

-- how many of the faults are of the rule, where there are such
unfoldable pub count_line : Rule → ℕ → List ℕ
count_line r count =
    if count == 0 then [] else codes "# " ++ (name_of r ++ (codes " " ++ (decimal count ++ 10 ∷ [])))

abbrev pub count_of : List Fault → Rule → ℕ
count_of faults r = count_by (λ fault. bytes_eq (name_of fault.rule) (name_of r)) faults

unfoldable pub counts_text : List Fault → List ℕ
counts_text faults = flat_map (λ r. count_line r (count_of faults r)) ALL

abbrev pub head : List ℕ
head = codes "line,cycle,cmd,rank,group,bank,rule,earlier_line,earlier_cycle,distance,least\n"

-- the lines of the faults that are told, between the head and the counts of all faults
abbrev pub all_faults_text : List ℕ → List Fault → List ℕ
all_faults_text lines faults = head ++ (lines ++ counts_text faults)

-- what is told of a trace
pub record TellsAll (c : Config) (start end : ℕ) (entries : List Entry) (most : Option ℕ) (text : List ℕ) : Type 0 where
  pub lines : List ℕ
  pub told : IsTable c start end entries (told_of most (all_faults c start end entries)) lines
  pub whole : text ≡ all_faults_text lines (all_faults c start end entries)
