-- How long a request waits by the distances of a configuration, in clocks.
use Rattle.std.specs.Prelude.{ℕ, ◌+◌, ◌==◌, Bool, max, nat_le, if◌then◌else◌}
use Rattle.ddr_timing.specs.declared.config.Config.{Config}
use Rattle.ddr_timing.specs.declared.units.TheConstants.{BURST_CLOCKS}
use Rattle.ddr_latency.specs.declared.clocks.Clocks.{Clocks}

-- behind which an ACT, a read or a write of a bank lets it be precharged: RAS, a write's recovery, RTP
abbrev pub recovery : Clocks → ℕ
recovery t = max (max t.ras (t.cwl + BURST_CLOCKS + t.wr)) t.rtp

-- behind which a rank that has to be refreshed has its REF: behind a PREA, or behind the REF before
abbrev pub refresh : Clocks → ℕ
refresh t = max (recovery t + t.rp) t.rfc + 1

-- behind which a bank lets a row be opened
abbrev pub row : Clocks → ℕ
row t = max (max (recovery t + t.rp) t.rc) (max t.rrd_l t.faw)

-- behind which an open row lets a line be read or written, and there is room for the completion
abbrev pub column : Clocks → ℕ
column t = max (max t.ccd_l t.rtw) (max (t.cwl + BURST_CLOCKS + max t.wtr_s t.wtr_l) (max t.cl t.cwl + BURST_CLOCKS + t.switch))

-- the clocks of a request that is served alone, from the last command for another one on
abbrev pub service : Clocks → ℕ
service t = max (row t + t.rcd) (column t)

-- the clocks of a request that no older one stands before, from the refresh on that it meets
abbrev pub alone : Clocks → ℕ
alone t = max (max (refresh t + t.rfc) (row t) + t.rcd) (column t)

-- the distances of a configuration
abbrev pub clocks_of : Config → Clocks
clocks_of c = let t = c.timing in record {
  cl = t.cl;
  cwl = t.cwl;
  rcd = t.rcd;
  rp = t.rp;
  ras = t.ras;
  rc = t.rc;
  rrd_l = t.rrd_l;
  faw = t.faw;
  ccd_l = t.ccd_l;
  wtr_s = t.wtr_s;
  wtr_l = t.wtr_l;
  wr = t.wr;
  rtp = t.rtp;
  rtw = t.rtw;
  rfc = t.rfc;
  switch = if c.geometry.ranks == 2 then t.rtrs else 1;
}

-- each refresh interval leaves time to serve a request
abbrev pub leaves_time : Config → Bool
leaves_time c = nat_le (alone (clocks_of c)) c.timing.refi
