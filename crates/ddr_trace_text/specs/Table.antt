-- A table of comma-separated fields while it is written, and while it is read.
use Rattle.std.specs.Prelude.{◌≡◌, ℕ, suc, Bool, List, [], ◌∷◌, Option, Some, true, false}
use Rattle.std.specs.Bool.{MatchBool}
use Rattle.std.specs.Io.KnownBytes.{Appends}
use Rattle.csv.specs.declared.writer.Writer.{Writer}
use Rattle.csv.specs.Writing.{default_writer, writer_setup, fields_written, has_written, needs_quotes, text_written}
use Rattle.csv.specs.declared.reader.Reader.{Reader}
use Rattle.csv.specs.declared.reader.Trim.TheVariants as trim
use Rattle.csv.specs.Reading.{Ready, default_config, is_flexible, reader_config, reader_trim, reader_state, records_from, source_of}
use Rattle.ddr_trace_text.specs.Text.{record_text}

-- the table has the usual marks, and stands between two records
pub record IsReady {W : Type 0} (table : Writer W) : Type 0 where
  pub setup : writer_setup table ≡ default_writer
  pub fields : fields_written table ≡ 0
  pub unwritten : has_written table ≡ false

-- no byte of the field calls for quotes
abbrev pub IsPlain : List ℕ → Type 0
IsPlain field = needs_quotes default_writer field ≡ false

-- the table has one more record, of these fields
abbrev pub AddsRecord : {W : Type 0} → (W → Option (List ℕ)) → Writer W → Writer W → List (List ℕ) → Type 0
AddsRecord contents old new fields = Appends (text_written contents old) (text_written contents new) (record_text fields)

-- the table is read with the usual marks, field by field as it stands, from records of any length
pub record IsReading {R : Type 0} (table : Reader R) : Type 0 where
  pub config : reader_config table ≡ default_config
  pub trim : reader_trim table ≡ trim.None
  pub flexible : is_flexible table ≡ true
  pub ready : Ready table

-- the first n records that are left in the table, whose bytes are known
abbrev pub HasLeft : {R : Type 0} → (R → Option (List ℕ)) → Reader R → ℕ → List (List (List ℕ)) → Type 0
HasLeft remaining table n records =
    (bytes : List ℕ) × (source_of remaining table ≡ Some bytes) × (records ≡ records_from default_config n (reader_state table) bytes)

-- a read that took the next record, or found none
abbrev pub Takes : {R : Type 0} → (R → Option (List ℕ)) → Reader R → Reader R → Bool → List (List ℕ) → Type 0
Takes remaining old new found fields = (n : ℕ) (records : List (List (List ℕ))) → HasLeft remaining old (suc n) records
    → MatchBool found ((rest : List (List (List ℕ))) × (records ≡ fields ∷ rest) × HasLeft remaining new n rest) (records ≡ [])
