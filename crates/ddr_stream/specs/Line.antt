-- A line of a stream: which port it is for, and what it asks for there, or what is wrong with it. In this project's own form, or in
-- another simulator's.
use Rattle.std.specs.Prelude.{ℕ, Bool, ◌&&◌, ◌||◌, nat_le, nat_lt, ◌==◌, if◌then◌else◌, List, [], ◌∷◌, length, drop, filter, slice_index, codes, Option, Some, None, Result, Ok, Err}
use Rattle.std.specs.List.{list_all, slice_split}
use Rattle.std.specs.Option.{ok_or}
use Rattle.std.specs.Str.{bytes_eq}
use Rattle.ddr_address_map.specs.declared.request.Kind.{Kind}
use Rattle.ddr_address_map.specs.declared.request.Kind.TheVariants.{Read, Write}
use Rattle.ddr_trace_text.specs.Numbers.{number_of}
use Rattle.ddr_capture.specs.Fields.{hex_of}
use Rattle.ddr_text.specs.declared.command.Format.{Format}
use Rattle.ddr_text.specs.declared.command.Format.TheVariants.{Own, Dramsim3, Ramulator2}
use Rattle.ddr_text.specs.declared.fault.LineFault.{LineFault}
use Rattle.ddr_text.specs.declared.fault.LineFault.TheVariants.{Spaces, Fields, Word, Number, NoSuch}
use Rattle.ddr_text.specs.Script as script
use Rattle.ddr_text.specs.Script.{LARGEST, fields_of, has_space_at_end}
use Rattle.ddr_stream.specs.declared.line.Sent.{Sent}

infixl 10 ◌>>=◌
abbrev pub ◌>>=◌ : {A B : Type 0} → Result A LineFault → (A → Result B LineFault) → Result B LineFault
Ok a >>= f = f a
Err cause >>= f = Err cause

-- ---- fields

-- white space, as C has it: the space, and from the tab to the carriage return
abbrev pub is_white : ℕ → Bool
is_white byte = byte == 32 || (nat_le 9 byte && nat_le byte 13)

-- what stands between white space
abbrev pub white_fields_of : List ℕ → List (List ℕ)
white_fields_of text = filter (λ field. nat_lt 0 (length field)) (slice_split is_white text)

-- what asks for nothing: an empty line and a comment, and in DRAMSim3's form white space too
abbrev pub is_skipped : Format → List ℕ → Bool
is_skipped Own text = script.is_skipped text
is_skipped Dramsim3 text = script.is_skipped text || list_all is_white text
is_skipped Ramulator2 text = script.is_skipped text

-- ---- numbers

-- `0x` stands in front
abbrev pub has_mark : List ℕ → Bool
has_mark field = slice_index field 0 == 48 && slice_index field 1 == 120

-- `0x` or `0X` does
abbrev pub has_either_mark : List ℕ → Bool
has_either_mark field = slice_index field 0 == 48 && (slice_index field 1 == 120 || slice_index field 1 == 88)

-- a cycle, or `-` for as soon as possible
abbrev pub at_of : List ℕ → Option ℕ
at_of field = if bytes_eq field (codes "-") then Some 0 else number_of LARGEST field

-- a decimal address, or a hexadecimal one behind `0x`
abbrev pub address_of : List ℕ → Option ℕ
address_of field = if has_mark field then hex_of LARGEST (drop 2 field) else number_of LARGEST field

-- DRAMSim3's: hexadecimal, behind `0x` or `0X` or without
abbrev pub address_of_dramsim3 : List ℕ → Option ℕ
address_of_dramsim3 field = if has_either_mark field then hex_of LARGEST (drop 2 field) else hex_of LARGEST field

-- Ramulator 2's: decimal, or hexadecimal behind `0x` or `0X`
abbrev pub address_of_ramulator2 : List ℕ → Option ℕ
address_of_ramulator2 field = if has_either_mark field then hex_of LARGEST (drop 2 field) else number_of LARGEST field

-- ---- words

abbrev pub kind_of : List ℕ → Option Kind
kind_of word = if bytes_eq word (codes "read") then Some Read else (if bytes_eq word (codes "write") then Some Write else None)

-- DRAMSim3's: each word but four is a read
abbrev pub kind_of_dramsim3 : List ℕ → Kind
kind_of_dramsim3 word =
    if bytes_eq word (codes "WRITE") || bytes_eq word (codes "write") || bytes_eq word (codes "P_MEM_WR") || bytes_eq word (codes "BOFF") then Write
    else Read

-- Ramulator 2's `LD` and `ST`; `R` and `W` are this project's
abbrev pub kind_of_ramulator2 : List ℕ → Option Kind
kind_of_ramulator2 word =
    if bytes_eq word (codes "LD") || bytes_eq word (codes "R") then Some Read
    else (if bytes_eq word (codes "ST") || bytes_eq word (codes "W") then Some Write else None)

-- ---- lines

-- of so many ports
abbrev pub for_port : ℕ → Sent → Result Sent LineFault
for_port ports sent = if nat_lt sent.port ports then Ok sent else Err NoSuch

-- `AT PORT read ADDR` or `AT PORT write ADDR`, for so many ports
unfoldable pub of_own : ℕ → List ℕ → List ℕ → List ℕ → List ℕ → Result Sent LineFault
of_own ports at port word addr = do
  k ← ok_or (kind_of word) Word
  a ← ok_or (at_of at) Number
  p ← ok_or (number_of LARGEST port) Number
  x ← ok_or (address_of addr) Number
  for_port ports (record { port = p; at = a; kind = k; addr = x })

-- `ADDR WORD AT`, for this port
unfoldable pub of_dramsim3 : ℕ → List ℕ → List ℕ → List ℕ → Result Sent LineFault
of_dramsim3 port addr word at = do
  x ← ok_or (address_of_dramsim3 addr) Number
  a ← ok_or (number_of LARGEST at) Number
  Ok (record { port = port; at = a; kind = kind_of_dramsim3 word; addr = x })

-- `LD ADDR` or `ST ADDR`, as soon as possible, for this port
unfoldable pub of_ramulator2 : ℕ → List ℕ → List ℕ → Result Sent LineFault
of_ramulator2 port word addr = do
  k ← ok_or (kind_of_ramulator2 word) Word
  x ← ok_or (address_of_ramulator2 addr) Number
  Ok (record { port = port; at = 0; kind = k; addr = x })

-- as many fields as the form has
abbrev pub of_four : ℕ → List (List ℕ) → Result Sent LineFault
of_four ports (at ∷ port ∷ word ∷ addr ∷ []) = of_own ports at port word addr
of_four ports _ = Err Fields

abbrev pub of_three : ℕ → List (List ℕ) → Result Sent LineFault
of_three port (addr ∷ word ∷ at ∷ []) = of_dramsim3 port addr word at
of_three port _ = Err Fields

abbrev pub of_two : ℕ → List (List ℕ) → Result Sent LineFault
of_two port (word ∷ addr ∷ []) = of_ramulator2 port word addr
of_two port _ = Err Fields

-- spaces stand between fields alone
abbrev pub within_spaces : List ℕ → Result Sent LineFault → Result Sent LineFault
within_spaces text said = if has_space_at_end text then Err Spaces else said

-- what a line asks for that is not skipped, for so many ports; where its form names no port, for the one that is next
abbrev pub sent_of : Format → ℕ → ℕ → List ℕ → Result Sent LineFault
sent_of Own ports next text = within_spaces text (of_four ports (fields_of text))
sent_of Dramsim3 ports next text = of_three next (white_fields_of text)
sent_of Ramulator2 ports next text = within_spaces text (of_two next (fields_of text))
