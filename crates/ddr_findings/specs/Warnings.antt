-- Which values are accepted, and yet strange: in each comparison the left side is below the right one.
use Rattle.std.specs.Prelude.{ℕ, Bool, ◌+◌, ◌*◌, ◌==◌, ◌&&◌, List, [], ◌∷◌, nat_lt, Option, Some, None, option_and_then, if◌then◌else◌}
use Rattle.std.specs.List.{filter_map}
use Rattle.toml.specs.Data.{Members}
use Rattle.ddr_timing.specs.declared.key.Key.{Key}
use Rattle.ddr_timing.specs.declared.key.Key.TheVariants.{Channels, Ports, Window, Intake, Reads, Writes, Done, Low, High, Cap, Cl, Cwl, Rcd, Rp, Ras, Rc, RrdS, RrdL, Faw, CcdS, CcdL, WtrS, WtrL, Wr, Rtp, Rtw, Rfc, Refi, Ranks, Rtrs}
use Rattle.ddr_timing.specs.declared.units.TheConstants.{BURST_CLOCKS}
use Rattle.ddr_latency.specs.declared.clocks.Clocks.{Clocks}
use Rattle.ddr_latency.specs.Latency.{alone, service}
use Rattle.ddr_timing.specs.Tables.{number_of}
use Rattle.ddr_findings.specs.declared.oddity.Oddity.{Oddity}
use Rattle.ddr_findings.specs.declared.oddity.Oddity.TheVariants as odd
use Rattle.ddr_findings.specs.declared.warning.Sides.{Sides}
use Rattle.ddr_findings.specs.declared.warning.Warning.{Warning}
use Rattle.ddr_findings.specs.Sound.{are_sound, is_sound}

-- the two sides of a comparison, where all keys that it speaks of are sound
abbrev pub sides : Members → List Key → ℕ → ℕ → Option Sides
sides table keys left right = if are_sound table keys then Some (record { left = left; right = right }) else None

-- the table says that there are two ranks
abbrev pub has_two_ranks : Members → Bool
has_two_ranks table = is_sound table Ranks && number_of table Ranks == 2

-- the keys of the clocks of a request, and of the refresh interval
abbrev pub clock_keys : List Key
clock_keys = Refi ∷ Cl ∷ Cwl ∷ Rcd ∷ Rp ∷ Ras ∷ Rc ∷ RrdL ∷ Faw ∷ CcdL ∷ WtrS ∷ WtrL ∷ Wr ∷ Rtp ∷ Rtw ∷ Rfc ∷ []

-- the numbers at these keys, with this switch between ranks
abbrev pub clocks_in : (Key → ℕ) → ℕ → Clocks
clocks_in n switch = record {
  cl = n Cl;
  cwl = n Cwl;
  rcd = n Rcd;
  rp = n Rp;
  ras = n Ras;
  rc = n Rc;
  rrd_l = n RrdL;
  faw = n Faw;
  ccd_l = n CcdL;
  wtr_s = n WtrS;
  wtr_l = n WtrL;
  wr = n Wr;
  rtp = n Rtp;
  rtw = n Rtw;
  rfc = n Rfc;
  switch = switch;
}

-- the clocks of a request that is served alone, with this switch between ranks, where all these keys are sound
abbrev pub service_of : Members → List Key → ℕ → Option ℕ
service_of table keys switch = if are_sound table keys then Some (service (clocks_in (number_of table) switch)) else None

-- the same of the table's ranks
abbrev pub service_in : Members → Option ℕ
service_in table = if has_two_ranks table then service_of table (Rtrs ∷ clock_keys) (number_of table Rtrs) else service_of table clock_keys 1

-- the comparison of each oddity: the keys that it speaks of, its left side and its right side
abbrev pub sides_of : Members → Oddity → Option Sides
sides_of table oddity = by_oddity (number_of table) oddity
  where
    by_oddity : (Key → ℕ) → Oddity → Option Sides
    by_oddity n odd.RowCycle = sides table (Rc ∷ Ras ∷ Rp ∷ []) (n Rc) (n Ras + n Rp)
    by_oddity n odd.RowTime = sides table (Ras ∷ Rcd ∷ Rtp ∷ []) (n Ras) (n Rcd + n Rtp)
    by_oddity n odd.GroupOverCycle = sides table (Rc ∷ RrdL ∷ []) (n Rc) (n RrdL)
    by_oddity n odd.FourActivates = sides table (Faw ∷ RrdS ∷ []) (n Faw) (4 * n RrdS)
    by_oddity n odd.GroupWriteToRead = sides table (WtrL ∷ WtrS ∷ []) (n WtrL) (n WtrS)
    by_oddity n odd.ReadToWrite = sides table (Rtw ∷ Cwl ∷ Cl ∷ []) (n Rtw + n Cwl) (n Cl + 6)
    by_oddity n odd.WriteLatency = sides table (Cl ∷ Cwl ∷ []) (n Cl + 1) (n Cwl)
    by_oddity n odd.WriteRecovery = sides table (Wr ∷ Rtp ∷ []) (n Wr) (n Rtp)
    by_oddity n odd.BurstGap = sides table (CcdS ∷ []) BURST_CLOCKS (n CcdS)
    by_oddity n odd.RankGap = sides table (Rtrs ∷ []) BURST_CLOCKS (n Rtrs)
    by_oddity n odd.RefreshCycle = sides table (Rfc ∷ Rc ∷ []) (n Rfc) (n Rc)
    by_oddity n odd.RefreshShare = sides table (Refi ∷ Rfc ∷ []) (n Refi) (4 * n Rfc)
    by_oddity n odd.RefreshRow =
        if has_two_ranks table then sides table (Rtrs ∷ clock_keys) (n Refi) (alone (clocks_in n (n Rtrs))) else sides table clock_keys (n Refi) (alone (clocks_in n 1))
    by_oddity n odd.CapMiss = sides table (Cap ∷ Rp ∷ Rcd ∷ []) (n Cap) (n Rp + n Rcd + 1)
    by_oddity n odd.CapRefresh = sides table (Cap ∷ Rfc ∷ []) (n Cap) (n Rfc + 1)
    by_oddity n odd.CapService =
        option_and_then (λ clocks. sides table (Cap ∷ Reads ∷ Writes ∷ []) (n Cap) ((n Reads + n Writes) * clocks)) (service_in table)
    by_oddity n odd.MarkGap = sides table (High ∷ Low ∷ []) (n High) (n Low + 2)
    by_oddity n odd.HighMark = sides table (Ports ∷ Window ∷ High ∷ []) (n Ports * n Window) (n High)
    by_oddity n odd.IntakeSize = sides table (Ports ∷ Window ∷ Intake ∷ []) (n Ports * n Window) (n Intake)
    by_oddity n odd.ReadsSize = sides table (Ports ∷ Window ∷ Reads ∷ []) (n Ports * n Window) (n Reads)
    by_oddity n odd.WritesSize = sides table (Ports ∷ Window ∷ Writes ∷ []) (n Ports * n Window) (n Writes)
    by_oddity n odd.DoneSize = sides table (Ports ∷ Window ∷ Done ∷ []) (n Ports * n Window) (n Done)
    by_oddity n odd.DoneShort = sides table (Done ∷ CcdS ∷ Cl ∷ []) (n Done * n CcdS) (n Cl + BURST_CLOCKS)
    by_oddity n odd.WindowSize =
        sides table (Channels ∷ Intake ∷ Reads ∷ Writes ∷ Done ∷ Window ∷ []) (n Channels * (n Intake + n Reads + n Writes + n Done)) (n Window)

-- the oddities, in the order in which they are told
unfoldable pub oddities : List Oddity
oddities =
    odd.RowCycle ∷ odd.RowTime ∷ odd.GroupOverCycle ∷ odd.FourActivates ∷ odd.GroupWriteToRead ∷ odd.ReadToWrite
    ∷ odd.WriteLatency ∷ odd.WriteRecovery ∷ odd.BurstGap ∷ odd.RankGap ∷ odd.RefreshCycle ∷ odd.RefreshShare
    ∷ odd.RefreshRow ∷ odd.CapMiss ∷ odd.CapRefresh ∷ odd.CapService ∷ odd.MarkGap ∷ odd.HighMark ∷ odd.IntakeSize
    ∷ odd.ReadsSize ∷ odd.WritesSize ∷ odd.DoneSize ∷ odd.DoneShort ∷ odd.WindowSize ∷ []

-- the warning of a comparison, where its left side is below its right one
abbrev pub warning_in : Oddity → Sides → Option Warning
warning_in oddity s =
    if nat_lt s.left s.right then Some (record { oddity = oddity; left = s.left; right = s.right }) else None

abbrev pub warning_of : Members → Oddity → Option Warning
warning_of table oddity = option_and_then (warning_in oddity) (sides_of table oddity)

-- the warnings of a text that is this table, or none
unfoldable pub warnings_of : Option Members → List Warning
warnings_of None = []
warnings_of (Some table) = filter_map (warning_of table) oddities
