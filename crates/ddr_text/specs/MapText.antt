-- What the command `map` writes.
use Rattle.std.specs.Prelude.{◌≡◌, ℕ, ◌+◌, ◌*◌, Bool, ◌==◌, if◌then◌else◌, List, [], ◌∷◌, ◌++◌, length, map, codes, Option, Some, None, option_map, Result, Ok, Err}
use Rattle.std.specs.Fmt.{decimal}
use Rattle.std.specs.Io.KnownBytes.{Appends}
use Rattle.std.specs.List.{join_with_byte}
use Rattle.std.specs.Option.{option_map_or}
use Rattle.std.specs.Str.Lines.{lines}
use Rattle.ddr_timing.specs.declared.config.Config.{Config}
use Rattle.ddr_timing.specs.declared.geometry.Geometry.{Geometry}
use Rattle.ddr_timing.specs.declared.units.TheConstants.{LINE_COLUMNS}
use Rattle.ddr_address_map.specs.Map.{place_of}
use Rattle.ddr_address_map.specs.declared.place.Place.{Place}
use Rattle.ddr_text.specs.declared.fault.Fault.{Fault}
use Rattle.ddr_text.specs.declared.fault.Fault.TheVariants as faults
use Rattle.ddr_trace_text.specs.Numbers.{number_of}
use Rattle.ddr_text.specs.Body.{HasInputFault, HasParts, parts_of}
use Rattle.ddr_text.specs.Input.{IsText}
use Rattle.ddr_text.specs.Script.{LARGEST}

-- the rank of a place, of which version 1 says nothing
abbrev pub rank_of : Geometry → Place → List ℕ
rank_of shape p = if shape.version == 2 then p.rank ∷ [] else []

-- an address and its place
abbrev pub words_of : Geometry → ℕ → Option Place → List (List ℕ)
words_of shape addr None = decimal addr ∷ codes "out" ∷ []
words_of shape addr (Some p) =
    map decimal (addr ∷ p.channel ∷ (rank_of shape p ++ p.group ∷ p.bank ∷ p.row ∷ LINE_COLUMNS * p.line ∷ p.offset ∷ []))

-- the line that is written for an address
unfoldable pub address_text : Geometry → ℕ → List ℕ
address_text shape addr = join_with_byte 32 (words_of shape addr (place_of shape addr)) ++ 10 ∷ []

-- what is written for a line of the body, if it is empty or an address
abbrev pub line_text : Geometry → List ℕ → Option (List ℕ)
line_text shape line = if length line == 0 then Some [] else option_map (address_text shape) (number_of LARGEST line)

-- what is written for these lines behind so many lines and their text, or the number of the first line at fault
abbrev pub text_from : Geometry → ℕ → List ℕ → List (List ℕ) → Result (List ℕ) ℕ
text_from shape count text [] = Ok text
text_from shape count text (line ∷ more) =
    option_map_or (λ added. text_from shape (count + 1) (text ++ added) more) (line_text shape line) (Err (count + 1))

-- what is written for a body, or the number of its first line at fault; lines count from 1
unfoldable pub map_text : Geometry → List ℕ → Result (List ℕ) ℕ
map_text shape body = text_from shape 0 [] (lines body)

-- what is answered is what the body says, unless memory ran out
abbrev pub IsMapFault : Fault → Result (List ℕ) ℕ → Type 0
IsMapFault faults.OutOfMemory said = Unit {0}
IsMapFault (faults.MapLine line) said = said ≡ Err line
IsMapFault _ said = ⊥

-- what an input says: its body's text under its configuration, or the number of the body's first line at fault
pub record SaysPlaces (sample : Bool) (profile input : List ℕ) (said : Result (List ℕ) ℕ) : Type 0 where
  pub text : IsText input
  pub config : Config
  pub body : List ℕ
  pub opened : HasParts (parts_of sample profile input) config body
  pub mapped : map_text config.geometry body ≡ said

-- what a map without a fault writes
pub record IsMapped (sample : Bool) (profile input : List ℕ) (old new : Option (List ℕ)) : Type 0 where
  pub text : List ℕ
  pub says : SaysPlaces sample profile input (Ok text)
  pub written : Appends old new text

-- the body is one of addresses
abbrev pub HasPlaces : Bool → List ℕ → List ℕ → Type 0
HasPlaces sample profile input = (text : List ℕ) × SaysPlaces sample profile input (Ok text)

-- the input has the fault that a map ends by; where writing fails it has a text to be written, and reading and memory
-- fail by themselves
abbrev pub HasMapFault : Bool → List ℕ → List ℕ → Fault → Type 0
HasMapFault sample profile input (faults.MapLine line) = SaysPlaces sample profile input (Err line)
HasMapFault sample profile input faults.Read = Unit {0}
HasMapFault sample profile input faults.Write = HasPlaces sample profile input
HasMapFault sample profile input faults.OutOfMemory = Unit {0}
HasMapFault sample profile input fault = HasInputFault sample profile input fault
