-- The names of commands, as a trace's text has them, and those of the rules, as reports print them, with their numbers.
use Rattle.std.specs.Prelude.{ℕ, List, codes}
use Rattle.ddr_trace.specs.declared.command.Command.{Command}
use Rattle.ddr_trace.specs.declared.command.Command.TheVariants.{Act, Rd, Wr, RdAuto, WrAuto, Pre, PreAll, Refresh}
use Rattle.ddr_trace.specs.declared.rule.Rule.{Rule}
use Rattle.ddr_trace.specs.declared.rule.Rule.TheVariants as rule

abbrev pub command_name : Command → List ℕ
command_name (Act rank group bank row) = codes "ACT"
command_name (Rd rank group bank row line) = codes "RD"
command_name (Wr rank group bank row line) = codes "WR"
command_name (RdAuto rank group bank row line) = codes "RDA"
command_name (WrAuto rank group bank row line) = codes "WRA"
command_name (Pre rank group bank) = codes "PRE"
command_name (PreAll rank) = codes "PREA"
command_name (Refresh rank) = codes "REF"

abbrev pub name_of : Rule → List ℕ
name_of rule.Order = codes "ORDER"
name_of rule.Place = codes "PLACE"
name_of rule.State = codes "STATE"
name_of rule.Row = codes "ROW"
name_of rule.Rcd = codes "RCD"
name_of rule.Ras = codes "RAS"
name_of rule.Rc = codes "RC"
name_of rule.Rp = codes "RP"
name_of rule.RrdL = codes "RRD_L"
name_of rule.RrdS = codes "RRD_S"
name_of rule.Faw = codes "FAW"
name_of rule.CcdL = codes "CCD_L"
name_of rule.CcdS = codes "CCD_S"
name_of rule.WtrL = codes "WTR_L"
name_of rule.WtrS = codes "WTR_S"
name_of rule.Rtp = codes "RTP"
name_of rule.Wr = codes "WR"
name_of rule.Rtw = codes "RTW"
name_of rule.RpRef = codes "RP_REF"
name_of rule.Rfc = codes "RFC"
name_of rule.RefLate = codes "REF_LATE"
name_of rule.RefGap = codes "REF_GAP"
name_of rule.Rtrs = codes "RTRS"

-- a rule's number: of two rules that are broken at one place, the one with the lower number is told
abbrev pub number_of : Rule → ℕ
number_of rule.Order = 1
number_of rule.Place = 2
number_of rule.State = 3
number_of rule.Row = 4
number_of rule.Rcd = 5
number_of rule.Ras = 6
number_of rule.Rc = 7
number_of rule.Rp = 8
number_of rule.RrdL = 9
number_of rule.RrdS = 10
number_of rule.Faw = 11
number_of rule.CcdL = 12
number_of rule.CcdS = 13
number_of rule.WtrL = 14
number_of rule.WtrS = 15
number_of rule.Rtp = 16
number_of rule.Wr = 17
number_of rule.Rtw = 18
number_of rule.RpRef = 19
number_of rule.Rfc = 20
number_of rule.RefLate = 21
number_of rule.RefGap = 22
number_of rule.Rtrs = 23
