-- The line of each finding.
use Rattle.std.specs.Prelude.{codes, ℕ, ◌+◌, ◌-◌, max, List, [], ◌∷◌, ◌++◌, flat_map}
use Rattle.std.specs.Fmt.{decimal}
use Rattle.ddr_timing.specs.Keys.{name_of}
use Rattle.ddr_timing.specs.declared.units.TheConstants.{BURST_CLOCKS}
use Rattle.ddr_findings.specs.declared.relation.RefreshClocks.{RefreshClocks}
use Rattle.ddr_findings.specs.declared.relation.Relation.{Relation}
use Rattle.ddr_findings.specs.declared.relation.Relation.TheVariants.{BurstsPass, ColumnsOfAGroup, ActivatesOfAGroup, BusTurns, RefreshFits, MarksApart, MarkReached}
use Rattle.ddr_findings.specs.declared.takes.Takes.{Takes}
use Rattle.ddr_findings.specs.declared.takes.Takes.TheVariants as takes
use Rattle.ddr_findings.specs.declared.warning.Warning.{Warning}
use Rattle.ddr_findings.specs.Faults.{Told, later, missing, no_power, range, related, syntax, unknown}
use Rattle.ddr_findings.specs.Relations.{least_interval}
use Rattle.ddr_findings.specs.Shown.{plain}
use Rattle.ddr_findings.specs.Words.{left_of, reason_of, right_of}

-- what a value that is none of these is not
unfoldable pub takes_text : Takes → List ℕ
takes_text (takes.Within low high) = codes "is no integer from " ++ (decimal low ++ (codes " to " ++ decimal high))
takes_text (takes.PowerOfTwo low high) = codes "is no power of two from " ++ (decimal low ++ (codes " to " ++ decimal high))
takes_text takes.TwoOrFour = codes "is neither 2 nor 4"
takes_text takes.FiveWords = codes "is no text of the words channel, group, bank, column and row, each once with one space between two"
takes_text takes.SixWords = codes "is no text of the words channel, group, bank, column, row and rank, each once with one space between two"
takes_text takes.Flag = codes "is neither true nor false"

-- the clocks before a precharge, as relation 5 has them
unfoldable pub closing_text : RefreshClocks → List ℕ
closing_text c =
    codes "max(" ++ (decimal c.ras ++ (codes ", " ++ (decimal c.cwl ++ (codes " + 4 + " ++ (decimal c.wr ++ (codes ", "
    ++ (decimal c.rtp ++ codes ")")))))))

-- both sides of relation 5, of which the left one is this number
unfoldable pub refresh_text : RefreshClocks → ℕ → List ℕ
refresh_text c least =
    codes "relation 5: max(" ++ (closing_text c ++ (codes " + " ++ (decimal c.rp ++ (codes ", " ++ (decimal c.rfc
    ++ (codes ") + 4 = " ++ (decimal least ++ (codes " is above refi " ++ (decimal c.refi ++ 10 ∷ [])))))))))

-- both sides of a relation that is broken
unfoldable pub relation_text : Relation → List ℕ
relation_text (BurstsPass ccd_s) =
    codes "relation 1: ccd_s " ++ (decimal ccd_s ++ (codes " is below " ++ (decimal BURST_CLOCKS ++ 10 ∷ [])))
relation_text (ColumnsOfAGroup ccd_l ccd_s) =
    codes "relation 2: ccd_l " ++ (decimal ccd_l ++ (codes " is below ccd_s " ++ (decimal ccd_s ++ 10 ∷ [])))
relation_text (ActivatesOfAGroup rrd_l rrd_s) =
    codes "relation 3: rrd_l " ++ (decimal rrd_l ++ (codes " is below rrd_s " ++ (decimal rrd_s ++ 10 ∷ [])))
relation_text (BusTurns cl cwl rtw) =
    codes "relation 4: max(4, " ++ (decimal cl ++ (codes " + 4 - " ++ (decimal cwl ++ (codes ") = "
    ++ (decimal (max 4 (cl + 4 - cwl)) ++ (codes " is above rtw " ++ (decimal rtw ++ 10 ∷ [])))))))
relation_text (RefreshFits clocks) = refresh_text clocks (least_interval clocks)
relation_text (MarksApart low high) =
    codes "relation 6: low " ++ (decimal low ++ (codes " is not below high " ++ (decimal high ++ 10 ∷ [])))
relation_text (MarkReached high writes) =
    codes "relation 7: high " ++ (decimal high ++ (codes " is above writes " ++ (decimal writes ++ 10 ∷ [])))

-- the line of a fault
unfoldable pub fault_text : Told → List ℕ
fault_text syntax = codes "syntax: the configuration is no TOML text" ++ 10 ∷ []
fault_text (missing key) = codes "missing: there is no key " ++ (name_of key ++ 10 ∷ [])
fault_text (range key given takes) =
    codes "range: " ++ (name_of key ++ (codes " = " ++ (given ++ (codes " " ++ (takes_text takes ++ 10 ∷ [])))))
fault_text (no_power key given) =
    codes "power of two: " ++ (name_of key ++ (codes " = " ++ (decimal given ++ (codes " is none" ++ 10 ∷ []))))
fault_text (unknown name key) =
    codes "unknown key: " ++ (plain name ++ (codes ", the nearest known one is " ++ (name_of key ++ 10 ∷ [])))
fault_text (later name) = codes "unknown key: " ++ (plain name ++ (codes ", which version 2 alone has" ++ 10 ∷ []))
fault_text (related relation) = relation_text relation

-- the line of a warning
unfoldable pub warning_text : Warning → List ℕ
warning_text warning =
    codes "warning: " ++ (left_of warning.oddity ++ (codes " = " ++ (decimal warning.left ++ (codes " is below "
    ++ (right_of warning.oddity ++ (codes " = " ++ (decimal warning.right ++ (codes ": " ++ (reason_of warning.oddity ++ 10 ∷ [])))))))))

-- the lines of all findings: the faults first, the warnings behind
unfoldable pub findings_text : List Told → List Warning → List ℕ
findings_text faults warnings = flat_map fault_text faults ++ flat_map warning_text warnings
