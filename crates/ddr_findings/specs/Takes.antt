-- The values that a key takes, as a fault tells them, and which values they are.
use Rattle.std.specs.Prelude.{ℕ, Bool, true, false, ◌||◌, ◌==◌, is_some, if◌then◌else◌}
use Rattle.toml.specs.Data.{Data, string, boolean}
use Rattle.ddr_timing.specs.declared.key.Key.{Key}
use Rattle.ddr_timing.specs.declared.key.Key.TheVariants.{Version, Channels, Ports, Window, Intake, Reads, Writes, Done, Low, High, Cap, Groups, Rows, Columns, Map, BankXor, Cl, Cwl, Rcd, Rp, Ras, Rc, RrdS, RrdL, Faw, CcdS, CcdL, WtrS, WtrL, Wr, Rtp, Rtw, Rfc, Refi, Postpone, Closed, Ranks, Rtrs}
use Rattle.ddr_timing.specs.Order.{order_of, whole_text}
use Rattle.ddr_timing.specs.Tables.{is_within}
use Rattle.ddr_findings.specs.declared.takes.Takes.{Takes}
use Rattle.ddr_findings.specs.declared.takes.Takes.TheVariants.{Within, PowerOfTwo, TwoOrFour, FiveWords, SixWords, Flag}

-- the values that the key takes in a version; version 1 has no word for the rank
abbrev pub takes_of : ℕ → Key → Takes
takes_of version Version = Within 1 2
takes_of version Channels = Within 1 4
takes_of version Ports = Within 1 8
takes_of version Window = Within 1 64
takes_of version Intake = Within 1 64
takes_of version Reads = Within 1 32
takes_of version Writes = Within 1 32
takes_of version Done = Within 1 64
takes_of version Low = Within 0 31
takes_of version High = Within 1 32
takes_of version Cap = Within 1 65535
takes_of version Groups = TwoOrFour
takes_of version Rows = PowerOfTwo 16 131072
takes_of version Columns = PowerOfTwo 64 1024
takes_of version Map = if version == 2 then SixWords else FiveWords
takes_of version BankXor = Flag
takes_of version Cl = Within 1 65535
takes_of version Cwl = Within 1 65535
takes_of version Rcd = Within 1 65535
takes_of version Rp = Within 1 65535
takes_of version Ras = Within 1 65535
takes_of version Rc = Within 1 65535
takes_of version RrdS = Within 1 65535
takes_of version RrdL = Within 1 65535
takes_of version Faw = Within 1 65535
takes_of version CcdS = Within 1 65535
takes_of version CcdL = Within 1 65535
takes_of version WtrS = Within 1 65535
takes_of version WtrL = Within 1 65535
takes_of version Wr = Within 1 65535
takes_of version Rtp = Within 1 65535
takes_of version Rtw = Within 1 65535
takes_of version Rfc = Within 1 65535
takes_of version Refi = Within 1 65535
takes_of version Postpone = Within 0 7
takes_of version Closed = Flag
takes_of version Ranks = Within 1 2
takes_of version Rtrs = Within 1 65535

-- the value is one of these, in a version; whether an integer is a power of two is another question
abbrev pub takes_in : ℕ → Takes → Data → Bool
takes_in version (Within low high) value = is_within low high value
takes_in version (PowerOfTwo low high) value = is_within low high value
takes_in version TwoOrFour value = is_within 2 2 value || is_within 4 4 value
takes_in version FiveWords (string text) = is_some (order_of (whole_text version text))
takes_in version SixWords (string text) = is_some (order_of (whole_text version text))
takes_in version Flag (boolean flag) = true
takes_in version _ _ = false

-- the values are powers of two
abbrev pub are_powers : Takes → Bool
are_powers (PowerOfTwo low high) = true
are_powers _ = false
