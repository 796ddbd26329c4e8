-- The least distance of a rule, by the keys of the configuration that it is made of, and then by their values.
use Rattle.std.specs.Prelude.{ℕ, if◌then◌else◌, List, [], ◌++◌, codes}
use Rattle.std.specs.Fmt.{decimal}
use Rattle.ddr_timing.specs.declared.timing.Timing.{Timing}
use Rattle.ddr_trace.specs.declared.command.Command.{Command}
use Rattle.ddr_trace.specs.declared.rule.Rule.{Rule}
use Rattle.ddr_trace.specs.declared.rule.Rule.TheVariants as rule
use Rattle.ddr_trace.specs.Commands.{is_read}
use Rattle.ddr_trace.specs.Rules.{latency}

-- the key that is a rule's distance; of a rule that has none, or a formula of several keys, no key
abbrev pub key_of : Rule → List ℕ
key_of rule.Rcd = codes "rcd"
key_of rule.Ras = codes "ras"
key_of rule.Rc = codes "rc"
key_of rule.Rp = codes "rp"
key_of rule.RrdL = codes "rrd_l"
key_of rule.RrdS = codes "rrd_s"
key_of rule.Faw = codes "faw"
key_of rule.CcdL = codes "ccd_l"
key_of rule.CcdS = codes "ccd_s"
key_of rule.Rtp = codes "rtp"
key_of rule.Rtw = codes "rtw"
key_of rule.RpRef = codes "rp"
key_of rule.Rfc = codes "rfc"
key_of rule.Order = []
key_of rule.Place = []
key_of rule.State = []
key_of rule.Row = []
key_of rule.WtrL = []
key_of rule.WtrS = []
key_of rule.Wr = []
key_of rule.RefLate = []
key_of rule.RefGap = []
key_of rule.Rtrs = []

-- where a write's data count: from the write to the end of its data, and from there on the key's clocks
unfoldable pub data_text : Timing → List ℕ → ℕ → List ℕ
data_text t key value =
    codes "cwl + 4 + " ++ (key ++ (codes " = " ++ (decimal t.cwl ++ (codes " + 4 + " ++ decimal value))))

abbrev pub latency_key : Command → List ℕ
latency_key command = if is_read command then codes "cl" else codes "cwl"

-- RTRS: from the earlier one's data to the later one's
unfoldable pub switch_text : Timing → Command → Command → List ℕ
switch_text t a b =
    codes "max(4, " ++ (latency_key a ++ (codes " + 4 + rtrs - " ++ (latency_key b ++ (codes ") = max(4, "
    ++ (decimal (latency t a) ++ (codes " + 4 + " ++ (decimal t.rtrs ++ (codes " - " ++ (decimal (latency t b) ++ codes ")")))))))))

unfoldable pub limit_text : Timing → Rule → Command → Command → List ℕ
limit_text t rule.WtrL a b = data_text t (codes "wtr_l") t.wtr_l
limit_text t rule.WtrS a b = data_text t (codes "wtr_s") t.wtr_s
limit_text t rule.Wr a b = data_text t (codes "wr") t.wr
limit_text t rule.Rtrs a b = switch_text t a b
limit_text t r a b = key_of r
