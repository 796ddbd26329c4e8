-- The keys of a configuration's text, in the order in which faults are answered, each with its spelling and the values that it takes.
use Rattle.std.specs.Prelude.{codes, ℕ, List, [], ◌∷◌, ◌++◌, Bool, true, ◌==◌, if◌then◌else◌}
use Rattle.ddr_timing.specs.declared.key.Key.{Key}
use Rattle.ddr_timing.specs.declared.key.Key.TheVariants.{Version, Channels, Ports, Window, Intake, Reads, Writes, Done, Low, High, Cap, Groups, Rows, Columns, Map, BankXor, Cl, Cwl, Rcd, Rp, Ras, Rc, RrdS, RrdL, Faw, CcdS, CcdL, WtrS, WtrL, Wr, Rtp, Rtw, Rfc, Refi, Postpone, Closed, Ranks, Rtrs}
use Rattle.ddr_timing.specs.declared.key.Domain.{Domain}
use Rattle.ddr_timing.specs.declared.key.Domain.TheVariants.{Within, PowerOfTwo, TwoOrFour, Order, Flag}

-- the keys of version 1
unfoldable pub first_keys : List Key
first_keys =
    Version ∷ Channels ∷ Ports ∷ Window ∷ Intake ∷ Reads ∷ Writes ∷ Done ∷ Low ∷ High ∷ Cap ∷
    Groups ∷ Rows ∷ Columns ∷ Map ∷ BankXor ∷ Cl ∷ Cwl ∷ Rcd ∷ Rp ∷ Ras ∷ Rc ∷ RrdS ∷ RrdL ∷
    Faw ∷ CcdS ∷ CcdL ∷ WtrS ∷ WtrL ∷ Wr ∷ Rtp ∷ Rtw ∷ Rfc ∷ Refi ∷ Postpone ∷ []

-- the keys of a version, of which there are two: the second has three more
unfoldable pub keys : ℕ → List Key
keys version = if version == 2 then first_keys ++ Closed ∷ Ranks ∷ Rtrs ∷ [] else first_keys

-- the version has the key
abbrev pub has_key : ℕ → Key → Bool
has_key version Closed = version == 2
has_key version Ranks = version == 2
has_key version Rtrs = version == 2
has_key version _ = true

-- the key as the text spells it
abbrev pub name_of : Key → List ℕ
name_of Version = codes "version"
name_of Channels = codes "channels"
name_of Ports = codes "ports"
name_of Window = codes "window"
name_of Intake = codes "intake"
name_of Reads = codes "reads"
name_of Writes = codes "writes"
name_of Done = codes "done"
name_of Low = codes "low"
name_of High = codes "high"
name_of Cap = codes "cap"
name_of Groups = codes "groups"
name_of Rows = codes "rows"
name_of Columns = codes "columns"
name_of Map = codes "map"
name_of BankXor = codes "bank_xor"
name_of Cl = codes "cl"
name_of Cwl = codes "cwl"
name_of Rcd = codes "rcd"
name_of Rp = codes "rp"
name_of Ras = codes "ras"
name_of Rc = codes "rc"
name_of RrdS = codes "rrd_s"
name_of RrdL = codes "rrd_l"
name_of Faw = codes "faw"
name_of CcdS = codes "ccd_s"
name_of CcdL = codes "ccd_l"
name_of WtrS = codes "wtr_s"
name_of WtrL = codes "wtr_l"
name_of Wr = codes "wr"
name_of Rtp = codes "rtp"
name_of Rtw = codes "rtw"
name_of Rfc = codes "rfc"
name_of Refi = codes "refi"
name_of Postpone = codes "postpone"
name_of Closed = codes "closed"
name_of Ranks = codes "ranks"
name_of Rtrs = codes "rtrs"

-- the values that the key takes
abbrev pub domain_of : Key → Domain
domain_of Version = Within 1 2
domain_of Channels = Within 1 4
domain_of Ports = Within 1 8
domain_of Window = Within 1 64
domain_of Intake = Within 1 64
domain_of Reads = Within 1 32
domain_of Writes = Within 1 32
domain_of Done = Within 1 64
domain_of Low = Within 0 31
domain_of High = Within 1 32
domain_of Cap = Within 1 65535
domain_of Groups = TwoOrFour
domain_of Rows = PowerOfTwo 16 131072
domain_of Columns = PowerOfTwo 64 1024
domain_of Map = Order
domain_of BankXor = Flag
domain_of Cl = Within 1 65535
domain_of Cwl = Within 1 65535
domain_of Rcd = Within 1 65535
domain_of Rp = Within 1 65535
domain_of Ras = Within 1 65535
domain_of Rc = Within 1 65535
domain_of RrdS = Within 1 65535
domain_of RrdL = Within 1 65535
domain_of Faw = Within 1 65535
domain_of CcdS = Within 1 65535
domain_of CcdL = Within 1 65535
domain_of WtrS = Within 1 65535
domain_of WtrL = Within 1 65535
domain_of Wr = Within 1 65535
domain_of Rtp = Within 1 65535
domain_of Rtw = Within 1 65535
domain_of Rfc = Within 1 65535
domain_of Refi = Within 1 65535
domain_of Postpone = Within 0 7
domain_of Closed = Flag
domain_of Ranks = Within 1 2
domain_of Rtrs = Within 1 65535
