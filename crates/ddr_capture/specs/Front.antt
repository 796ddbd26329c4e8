-- The configuration in front of a capture.
use Rattle.std.specs.Prelude.{◌≡◌, ℕ, ◌+◌, ◌==◌, ◌||◌, ◌++◌, if◌then◌else◌, Bool, true, false, nat_lt, List, length, Option, Some, None, IfSome, IsSomeAnd, Result, Ok, Err}
use Rattle.std.specs.List.{list_any, slice_split}
use Rattle.std.specs.Option.{option_map_or}
use Rattle.std.specs.Str.{IsUtf8}
use Rattle.std.specs.Str.Lines.{lines}
use Rattle.ddr_timing.specs.declared.config.Config.{Config}
use Rattle.ddr_text.specs.declared.fault.Fault.{Fault}
use Rattle.ddr_text.specs.declared.fault.Fault.TheVariants as faults
use Rattle.ddr_text.specs.declared.input.TheConstants.{LONGEST_INPUT}
use Rattle.ddr_text.specs.Body.{HasParts, IsRefused, parts_of, split_from, split_of}
use Rattle.ddr_capture.specs.Feed.{Along}
use Rattle.ddr_capture.specs.declared.feed.Refusal.{Refusal}
use Rattle.ddr_capture.specs.declared.feed.Refusal.TheVariants as refusals
use Rattle.ddr_capture.specs.declared.feed.TheConstants.{LONGEST_LINE}

-- what stands before the mark; the whole input where there is none
abbrev pub front_of : List ℕ → List ℕ
front_of input = option_map_or (λ p. p.0) (split_of input) input

-- one of the lines is longer than any that is read
abbrev pub is_any_long : List (List ℕ) → Bool
is_any_long = list_any (λ line. nat_lt LONGEST_LINE (length line))

-- longer than a configuration may be, or with a line that is longer than any that is read
abbrev pub is_long : List ℕ → Bool
is_long text = nat_lt LONGEST_INPUT (length text) || is_any_long (lines text)

-- what stands before the mark is a text of lines that are read; with the sample nothing does
pub record IsReadable (front : List ℕ) : Type 0 where
  pub utf8 : IsUtf8 front
  pub short : is_long front ≡ false

abbrev pub HasFront : Bool → List ℕ → Type 0
HasFront true input = Unit {0}
HasFront false input = IsReadable (front_of input)

-- the configuration is what stands in front, and this is left behind it
pub record IsOpened (sample : Bool) (profile : List ℕ) (config : Config) (input rest : List ℕ) : Type 0 where
  pub parts : HasParts (parts_of sample profile input) config rest
  pub front : HasFront sample input

-- why no line was found in the configuration
abbrev pub front_fault : Refusal → Fault
front_fault refusals.Line = faults.InputTooLong
front_fault refusals.Read = faults.Read
front_fault refusals.OutOfMemory = faults.OutOfMemory

-- the input has no mark and is not too long, or too much stands before it; reading and memory fail by themselves
abbrev pub IsFrontRefused : List ℕ → Fault → Type 0
IsFrontRefused input faults.InputHasNoMark = (split_of input ≡ None) × (is_long (front_of input) ≡ false)
IsFrontRefused input faults.InputTooLong = is_long (front_of input) ≡ true
IsFrontRefused input faults.Read = Unit {0}
IsFrontRefused input faults.OutOfMemory = Unit {0}
IsFrontRefused input _ = ⊥

-- the input's configuration has this fault, or there is none
abbrev pub IsConfigRefused : Bool → List ℕ → List ℕ → Fault → Type 0
IsConfigRefused sample profile input faults.InputTooLong = (sample ≡ false) × (is_long (front_of input) ≡ true)
IsConfigRefused sample profile input faults.InputNotUtf8 = (sample ≡ false) × IsSomeAnd (split_of input) (λ p. ¬ IsUtf8 p.0)
IsConfigRefused sample profile input faults.Read = Unit {0}
IsConfigRefused sample profile input faults.OutOfMemory = Unit {0}
IsConfigRefused sample profile input fault = IsRefused (parts_of sample profile input) fault

-- what stands before the mark is not too long; with the sample nothing does
abbrev pub IsShort : Bool → List ℕ → Type 0
IsShort true input = Unit {0}
IsShort false input = is_long (front_of input) ≡ false

-- Of several faults that an input has this is the one that is told: that its front is too long before all others, then that it has no
-- mark or that its front is no text, and those of the configuration and of the body only behind a front that is read. Reading and memory
-- fail by themselves.
abbrev pub ComesFirst : Bool → List ℕ → Fault → Type 0
ComesFirst sample input faults.InputTooLong = Unit {0}
ComesFirst sample input faults.Read = Unit {0}
ComesFirst sample input faults.OutOfMemory = Unit {0}
ComesFirst sample input faults.InputHasNoMark = IsShort sample input
ComesFirst sample input faults.InputNotUtf8 = IsShort sample input
ComesFirst sample input fault = HasFront sample input

-- the last line, which lacks its end, is longer than any that is read, or too much stands before it to take it up
abbrev pub is_last_long : ℕ → List ℕ → Bool
is_last_long before line = nat_lt LONGEST_LINE (length line) || nat_lt LONGEST_INPUT (before + length line)

-- why an input is refused whose last line lacks its end, and is not the mark
abbrev pub last_fault : ℕ → List ℕ → Fault
last_fault before line = if is_last_long before line then faults.InputTooLong else faults.InputHasNoMark

-- a front of whole lines, of which none is the mark and none too long, and what stands behind it
pub record IsFront (front input rest : List ℕ) : Type 0 where
  pub whole : input ≡ front ++ rest
  pub said : split_from front (slice_split (λ byte. byte == 10) rest) ≡ split_of input
  pub seen : List (List ℕ)
  pub lined : (more : List ℕ) → lines (front ++ more) ≡ seen ++ lines more
  pub short : is_any_long seen ≡ false

-- this is the front, and what stands behind the mark is left
abbrev pub IsMarked : List ℕ → List ℕ → List ℕ → Type 0
IsMarked front input rest = (split_of input ≡ Some (front, rest)) × (is_any_long (lines front) ≡ false)

-- the mark was found, or the front is longer by a line, or it is refused
abbrev pub IsFrontStep : Option (List ℕ) → Result Bool Fault → List ℕ → Option (List ℕ) → Type 0
IsFrontStep a (Ok true) front c = Along (IsMarked front) a c
IsFrontStep a (Ok false) front c = Along (IsFront front) a c
IsFrontStep a (Err fault) front c = IfSome a (λ input. IsFrontRefused input fault)
