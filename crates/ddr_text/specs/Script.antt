-- The lines of a script: which ones do something, and what they say to do.
use Rattle.std.specs.Prelude.{ℕ, ◌-◌, ◌^◌, Bool, ◌&&◌, ◌||◌, nat_lt, nat_le, ◌==◌, if◌then◌else◌, List, [], ◌∷◌, length, filter, slice_index, codes, Option, Some, None, option_and_then}
use Rattle.std.specs.Int.{w64, from_be_bytes}
use Rattle.std.specs.List.{slice_split}
use Rattle.std.specs.Result.{result_ok}
use Rattle.std.specs.Str.{bytes_eq}
use Rattle.hex.specs.Hex.{decode_of, decode_sized}
use Rattle.ddr_ports.specs.Asked as asks
use Rattle.ddr_ports.specs.Asked.{Asked}
use Rattle.ddr_timing.specs.declared.units.TheConstants.{LINE_BYTES}
use Rattle.ddr_trace_text.specs.Numbers.{number_of}
use Rattle.ddr_text.specs.declared.script.Instruction as kept
use Rattle.ddr_text.specs.declared.script.Instruction.TheVariants as as_kept

-- what a line says to do: to ask at a port for a read or a write, or to make so many rounds
pub data Instruction : Type 0 where
  Ask : ℕ → Asked → Instruction
  Rounds : ℕ → Instruction

-- an instruction as the program keeps it, without where its bytes lie in memory
abbrev pub view : kept.Instruction → Instruction
view (as_kept.Read port addr len) = Ask port (asks.Read addr len)
view (as_kept.Write port addr bytes) = Ask port (asks.Write addr bytes.items)
view (as_kept.Masked port addr enable line) = Ask port (asks.Masked addr line.value enable)
view (as_kept.Cycle rounds) = Rounds rounds

-- an empty line and a comment do nothing
abbrev pub is_skipped : List ℕ → Bool
is_skipped text = length text == 0 || slice_index text 0 == 35

-- the greatest number that is read
abbrev pub LARGEST : ℕ
LARGEST = 2 ^ 64 - 1

-- the value, where it passes the test
abbrev pub only_if : {X : Type 0} → (X → Bool) → X → Option X
only_if test x = if test x then Some x else None

infixl 10 ◌>>=◌
abbrev pub ◌>>=◌ : {A B : Type 0} → Option A → (A → Option B) → Option B
o >>= f = option_and_then f o

-- of so many ports, the one that a field names
abbrev pub port_of : ℕ → List ℕ → Option ℕ
port_of ports field = number_of LARGEST field >>= only_if (λ port. nat_lt port ports)

-- two hexadecimal digits for each byte: 1 to 128 of them, and so many
abbrev pub bytes_of : List ℕ → Option (List ℕ)
bytes_of field = result_ok (decode_of field) >>= only_if (λ bytes. nat_lt 0 (length bytes) && nat_le (length bytes) 128)

abbrev pub just_bytes_of : ℕ → List ℕ → Option (List ℕ)
just_bytes_of count field = result_ok (decode_sized field count)

-- the data mask, the highest bit first
abbrev pub enable_of : List ℕ → Option ℕ
enable_of field = just_bytes_of 8 field >>= λ bytes. Some (from_be_bytes w64 bytes)

-- `read PORT ADDR LEN`
unfoldable pub read_of : ℕ → List ℕ → List ℕ → List ℕ → Option Instruction
read_of ports port addr len = do
  p ← port_of ports port
  a ← number_of LARGEST addr
  n ← number_of 65535 len
  Some (Ask p (asks.Read a n))

-- `write PORT ADDR HEX`
unfoldable pub write_of : ℕ → List ℕ → List ℕ → List ℕ → Option Instruction
write_of ports port addr hex = do
  p ← port_of ports port
  a ← number_of LARGEST addr
  bytes ← bytes_of hex
  Some (Ask p (asks.Write a bytes))

-- `mask PORT ADDR ENABLE HEX`
unfoldable pub masked_of : ℕ → List ℕ → List ℕ → List ℕ → List ℕ → Option Instruction
masked_of ports port addr enable hex = do
  p ← port_of ports port
  a ← number_of LARGEST addr
  e ← enable_of enable
  line ← just_bytes_of LINE_BYTES hex
  Some (Ask p (asks.Masked a line e))

-- `cycle N`
unfoldable pub cycle_of : List ℕ → Option Instruction
cycle_of count = do
  rounds ← number_of 1000000 count >>= only_if (λ n. nat_lt 0 n)
  Some (Rounds rounds)

-- by the word in front
unfoldable pub of_two : List ℕ → List ℕ → Option Instruction
of_two word count = if bytes_eq word (codes "cycle") then cycle_of count else None

unfoldable pub of_four : ℕ → List ℕ → List ℕ → List ℕ → List ℕ → Option Instruction
of_four ports word port addr last =
    if bytes_eq word (codes "read") then read_of ports port addr last
    else (if bytes_eq word (codes "write") then write_of ports port addr last else None)

unfoldable pub of_five : ℕ → List ℕ → List ℕ → List ℕ → List ℕ → List ℕ → Option Instruction
of_five ports word port addr enable hex = if bytes_eq word (codes "mask") then masked_of ports port addr enable hex else None

abbrev pub of_fields : ℕ → List (List ℕ) → Option Instruction
of_fields ports (word ∷ count ∷ []) = of_two word count
of_fields ports (word ∷ port ∷ addr ∷ last ∷ []) = of_four ports word port addr last
of_fields ports (word ∷ port ∷ addr ∷ enable ∷ hex ∷ []) = of_five ports word port addr enable hex
of_fields ports _ = None

-- what stands between the spaces
abbrev pub fields_of : List ℕ → List (List ℕ)
fields_of text = filter (λ field. nat_lt 0 (length field)) (slice_split (λ byte. byte == 32) text)

-- what stands between two spaces is a field, unless nothing does
abbrev pub kept_field : List ℕ → List (List ℕ)
kept_field field = filter (λ field. nat_lt 0 (length field)) (field ∷ [])

abbrev pub has_space_at_end : List ℕ → Bool
has_space_at_end text = slice_index text 0 == 32 || slice_index text (length text - 1) == 32

-- the instruction of a line that is not skipped, if it is of a form that a script has, for so many ports
unfoldable pub instruction_of : ℕ → List ℕ → Option Instruction
instruction_of ports text = if has_space_at_end text then None else of_fields ports (fields_of text)
