-- How sentences name an entry, a number of clocks, and a rule.
use Rattle.std.specs.Prelude.{ℕ, ◌+◌, ◌==◌, if◌then◌else◌, List, ◌++◌, codes}
use Rattle.std.specs.Fmt.{decimal}
use Rattle.ddr_trace.specs.declared.command.Command.{Command}
use Rattle.ddr_trace.specs.declared.command.Command.TheVariants.{Act, Rd, Wr, RdAuto, WrAuto, Pre, PreAll, Refresh}
use Rattle.ddr_trace.specs.declared.command.Entry.{Entry}
use Rattle.ddr_trace.specs.declared.rule.Rule.{Rule}
use Rattle.ddr_trace.specs.declared.rule.Rule.TheVariants as rule
use Rattle.ddr_trace.specs.Names.{command_name}

-- The line of an entry in a trace's text, by its place from 0: lines count records from 1, and the header is the first.
abbrev pub line_of : ℕ → ℕ
line_of place = place + 2

-- an entry: its command, its cycle, and its line
unfoldable pub at_text : ℕ → Entry → List ℕ
at_text place e =
    command_name e.command ++ (codes " at cycle " ++ (decimal e.cycle ++ (codes " (line " ++ (decimal (line_of place) ++ codes ")"))))

unfoldable pub clocks_text : ℕ → List ℕ
clocks_text n = if n == 1 then codes "1 clock" else decimal n ++ codes " clocks"

-- the rule's name, with the parameter or the section of JESD79-4 behind it where it has one
abbrev pub label_of : Rule → List ℕ
label_of rule.Order = codes "ORDER"
label_of rule.Place = codes "PLACE (addressing)"
label_of rule.State = codes "STATE (state diagram)"
label_of rule.Row = codes "ROW"
label_of rule.Rcd = codes "RCD (tRCD)"
label_of rule.Ras = codes "RAS (tRAS)"
label_of rule.Rc = codes "RC (tRC)"
label_of rule.Rp = codes "RP (tRP)"
label_of rule.RrdL = codes "RRD_L (tRRD_L)"
label_of rule.RrdS = codes "RRD_S (tRRD_S)"
label_of rule.Faw = codes "FAW (tFAW)"
label_of rule.CcdL = codes "CCD_L (tCCD_L)"
label_of rule.CcdS = codes "CCD_S (tCCD_S)"
label_of rule.WtrL = codes "WTR_L (tWTR_L)"
label_of rule.WtrS = codes "WTR_S (tWTR_S)"
label_of rule.Rtp = codes "RTP (tRTP)"
label_of rule.Wr = codes "WR (tWR)"
label_of rule.Rtw = codes "RTW"
label_of rule.RpRef = codes "RP_REF (tRP)"
label_of rule.Rfc = codes "RFC (tRFC)"
label_of rule.RefLate = codes "REF_LATE (tREFI)"
label_of rule.RefGap = codes "REF_GAP (tREFI)"
label_of rule.Rtrs = codes "RTRS"
