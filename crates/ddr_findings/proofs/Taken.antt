-- What a key takes is what `ddr_timing` says that it does.
use Rattle.std.proofs.Common.{◌≡◌, ℕ, Bool, true, false, ◌&&◌, not, refl}
use Rattle.std.specs.Int.{is_power_of_two}
use Rattle.toml.specs.Data.{Data, Members, boolean, string}
use Rattle.ddr_timing.specs.declared.key.Key.{Key}
use Rattle.ddr_timing.specs.declared.key.Key.TheVariants.{Version, Channels, Ports, Window, Intake, Reads, Writes, Done, Low, High, Cap, Groups, Rows, Columns, Map, BankXor, Cl, Cwl, Rcd, Rp, Ras, Rc, RrdS, RrdL, Faw, CcdS, CcdL, WtrS, WtrL, Wr, Rtp, Rtw, Rfc, Refi, Postpone, Closed, Ranks, Rtrs}
use Rattle.ddr_timing.specs.Keys.{domain_of}
use Rattle.ddr_timing.specs.Refusals.{is_no_power}
use Rattle.ddr_timing.specs.Tables.{is_in, number_of}
use Rattle.ddr_findings.specs.declared.takes.Takes.TheVariants.{FiveWords, SixWords, Flag}
use Rattle.ddr_findings.specs.Takes.{are_powers, takes_in, takes_of}
use Rattle.std.specs.Prelude.{◌==◌, cond}

words_in : (version : ℕ) (second : Bool) (value : Data) → is_in version (domain_of Map) value ≡ takes_in version (cond second SixWords FiveWords) value
words_in version true (string text) = refl
words_in version false (string text) = refl
words_in version true _ = refl
words_in version false _ = refl

flag_in : (version : ℕ) (value : Data) → is_in version (domain_of BankXor) value ≡ takes_in version Flag value
flag_in version (boolean flag) = refl
flag_in version _ = refl

-- the values of a key
pub takes_in-of : (version : ℕ) (key : Key) (value : Data) → is_in version (domain_of key) value ≡ takes_in version (takes_of version key) value
takes_in-of version Version value = refl
takes_in-of version Channels value = refl
takes_in-of version Ports value = refl
takes_in-of version Window value = refl
takes_in-of version Intake value = refl
takes_in-of version Reads value = refl
takes_in-of version Writes value = refl
takes_in-of version Done value = refl
takes_in-of version Low value = refl
takes_in-of version High value = refl
takes_in-of version Cap value = refl
takes_in-of version Groups value = refl
takes_in-of version Rows value = refl
takes_in-of version Columns value = refl
takes_in-of version Map value = words_in version (version == 2) value
takes_in-of version BankXor value = flag_in version value
takes_in-of version Cl value = refl
takes_in-of version Cwl value = refl
takes_in-of version Rcd value = refl
takes_in-of version Rp value = refl
takes_in-of version Ras value = refl
takes_in-of version Rc value = refl
takes_in-of version RrdS value = refl
takes_in-of version RrdL value = refl
takes_in-of version Faw value = refl
takes_in-of version CcdS value = refl
takes_in-of version CcdL value = refl
takes_in-of version WtrS value = refl
takes_in-of version WtrL value = refl
takes_in-of version Wr value = refl
takes_in-of version Rtp value = refl
takes_in-of version Rtw value = refl
takes_in-of version Rfc value = refl
takes_in-of version Refi value = refl
takes_in-of version Postpone value = refl
takes_in-of version Closed value = flag_in version value
takes_in-of version Ranks value = refl
takes_in-of version Rtrs value = refl

no_words : (second : Bool) → are_powers (cond second SixWords FiveWords) ≡ false
no_words true = refl
no_words false = refl

-- the keys that take powers of two
pub are_powers-of : (table : Members) (version : ℕ) (key : Key) → is_no_power table key ≡ (are_powers (takes_of version key) && not (is_power_of_two (number_of table key)))
are_powers-of table version Version = refl
are_powers-of table version Channels = refl
are_powers-of table version Ports = refl
are_powers-of table version Window = refl
are_powers-of table version Intake = refl
are_powers-of table version Reads = refl
are_powers-of table version Writes = refl
are_powers-of table version Done = refl
are_powers-of table version Low = refl
are_powers-of table version High = refl
are_powers-of table version Cap = refl
are_powers-of table version Groups = refl
are_powers-of table version Rows = refl
are_powers-of table version Columns = refl
are_powers-of table version Map = rw (no_words (version == 2)) refl
are_powers-of table version BankXor = refl
are_powers-of table version Cl = refl
are_powers-of table version Cwl = refl
are_powers-of table version Rcd = refl
are_powers-of table version Rp = refl
are_powers-of table version Ras = refl
are_powers-of table version Rc = refl
are_powers-of table version RrdS = refl
are_powers-of table version RrdL = refl
are_powers-of table version Faw = refl
are_powers-of table version CcdS = refl
are_powers-of table version CcdL = refl
are_powers-of table version WtrS = refl
are_powers-of table version WtrL = refl
are_powers-of table version Wr = refl
are_powers-of table version Rtp = refl
are_powers-of table version Rtw = refl
are_powers-of table version Rfc = refl
are_powers-of table version Refi = refl
are_powers-of table version Postpone = refl
are_powers-of table version Closed = refl
are_powers-of table version Ranks = refl
are_powers-of table version Rtrs = refl
