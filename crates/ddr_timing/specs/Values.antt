-- A configuration has the values of its table, each under its key.
use Rattle.std.specs.Prelude.{◌≡◌, ℕ, List, ◌&&◌, ◌==◌, Option, Some, None, IfSome, if◌then◌else◌}
use Rattle.toml.specs.Data.{Data, Members, string}
use Rattle.ddr_timing.specs.declared.config.Config.{Config}
use Rattle.ddr_timing.specs.declared.geometry.Digit.{Digit}
use Rattle.ddr_timing.specs.declared.geometry.Geometry.{Geometry}
use Rattle.ddr_timing.specs.declared.limits.Limits.{Limits}
use Rattle.ddr_timing.specs.declared.timing.Timing.{Timing}
use Rattle.ddr_timing.specs.declared.key.Key.{Key}
use Rattle.ddr_timing.specs.declared.key.Key.TheVariants.{Version, Channels, Ports, Window, Intake, Reads, Writes, Done, Low, High, Cap, Groups, Rows, Columns, Map, BankXor, Cl, Cwl, Rcd, Rp, Ras, Rc, RrdS, RrdL, Faw, CcdS, CcdL, WtrS, WtrL, Wr, Rtp, Rtw, Rfc, Refi, Postpone, Closed, Ranks, Rtrs}
use Rattle.ddr_timing.specs.Order.{text_of, whole_text}
use Rattle.ddr_timing.specs.Refusals.{refusal_of}
use Rattle.ddr_timing.specs.Tables.{flag_at, number_of, value_of, version_of}

-- the integer at a key of version 2, which is 1 in version 1
abbrev pub number_or_one : Members → Key → ℕ
number_or_one table key = if version_of table == 2 then number_of table key else 1

-- the value is the text of an order: of version 1 the rank is behind the five others
abbrev pub Lists : ℕ → Option Data → List Digit → Type 0
Lists version (Some (string text)) order = whole_text version text ≡ text_of order
Lists version _ order = ⊥

-- the timing is the table's values
pub record HoldsTiming (table : Members) (timing : Timing) : Type 0 where
  pub cl : timing.cl ≡ number_of table Cl
  pub cwl : timing.cwl ≡ number_of table Cwl
  pub rcd : timing.rcd ≡ number_of table Rcd
  pub rp : timing.rp ≡ number_of table Rp
  pub ras : timing.ras ≡ number_of table Ras
  pub rc : timing.rc ≡ number_of table Rc
  pub rrd_s : timing.rrd_s ≡ number_of table RrdS
  pub rrd_l : timing.rrd_l ≡ number_of table RrdL
  pub faw : timing.faw ≡ number_of table Faw
  pub ccd_s : timing.ccd_s ≡ number_of table CcdS
  pub ccd_l : timing.ccd_l ≡ number_of table CcdL
  pub wtr_s : timing.wtr_s ≡ number_of table WtrS
  pub wtr_l : timing.wtr_l ≡ number_of table WtrL
  pub wr : timing.wr ≡ number_of table Wr
  pub rtp : timing.rtp ≡ number_of table Rtp
  pub rtw : timing.rtw ≡ number_of table Rtw
  pub rfc : timing.rfc ≡ number_of table Rfc
  pub refi : timing.refi ≡ number_of table Refi
  pub postpone : timing.postpone ≡ number_of table Postpone
  pub rtrs : timing.rtrs ≡ number_or_one table Rtrs

-- the geometry is the table's values
pub record HoldsGeometry (table : Members) (geometry : Geometry) : Type 0 where
  pub version : geometry.version ≡ number_of table Version
  pub channels : geometry.channels ≡ number_of table Channels
  pub ranks : geometry.ranks ≡ number_or_one table Ranks
  pub groups : geometry.groups ≡ number_of table Groups
  pub rows : geometry.rows ≡ number_of table Rows
  pub columns : geometry.columns ≡ number_of table Columns
  pub map : Lists geometry.version (value_of table Map) geometry.map
  pub bank_xor : geometry.bank_xor ≡ flag_at table BankXor

-- the limits is the table's values
pub record HoldsLimits (table : Members) (limits : Limits) : Type 0 where
  pub ports : limits.ports ≡ number_of table Ports
  pub window : limits.window ≡ number_of table Window
  pub intake : limits.intake ≡ number_of table Intake
  pub reads : limits.reads ≡ number_of table Reads
  pub writes : limits.writes ≡ number_of table Writes
  pub done : limits.done ≡ number_of table Done
  pub low : limits.low ≡ number_of table Low
  pub high : limits.high ≡ number_of table High
  pub cap : limits.cap ≡ number_of table Cap
  pub closed : limits.closed ≡ (version_of table == 2 && flag_at table Closed)

pub record HoldsValues (table : Members) (config : Config) : Type 0 where
  pub timing : HoldsTiming table config.timing
  pub geometry : HoldsGeometry table config.geometry
  pub limits : HoldsLimits table config.limits

-- a text that is this table, or none, is read as the configuration: nothing speaks against it, and it has the table's values
pub record IsReadAs (parsed : Option Members) (config : Config) : Type 0 where
  pub accepted : refusal_of parsed ≡ None
  pub values : IfSome parsed (λ table. HoldsValues table config)
