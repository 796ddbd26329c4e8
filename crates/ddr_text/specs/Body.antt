-- The two parts of an input: a configuration, and a body behind the first line `---`.
use Rattle.std.specs.Prelude.{◌≡◌, ◌≢◌, ℕ, Bool, ◌||◌, ◌==◌, if◌then◌else◌, List, [], ◌∷◌, ◌++◌, codes, Option, Some, None, IsSomeAnd, option_map}
use Rattle.std.specs.List.{join_with_byte, list_any, slice_split}
use Rattle.std.specs.Str.{bytes_eq}
use Rattle.std.specs.Str.Lines.{lines}
use Rattle.toml.specs.Parse.{parse_document}
use Rattle.ddr_timing.specs.Refusals.{refusal_of}
use Rattle.ddr_timing.specs.declared.config.Config.{Config}
use Rattle.ddr_text.specs.declared.fault.Fault.{Fault}
use Rattle.ddr_text.specs.declared.fault.Fault.TheVariants.{InputHasNoMark, InputNotUtf8, InputTooLong, OutOfMemory}
use Rattle.ddr_text.specs.Fault.{fault_of}
use Rattle.ddr_text.specs.Input.{IsNoText, IsText, IsTooLong}
use Rattle.ddr_timing.specs.Values.{IsReadAs}

-- a line that a line feed ends is the mark, also with a carriage return
abbrev pub is_mark : List ℕ → Bool
is_mark line = bytes_eq line (codes "---") || bytes_eq line (codes "---" ++ 13 ∷ [])

-- the text before the mark and the text behind it, of lines with the text `config` before them; a line feed ends each
-- line but the last
abbrev pub split_from : List ℕ → List (List ℕ) → Option (List ℕ × List ℕ)
split_from config [] = None
split_from config (last ∷ []) = if bytes_eq last (codes "---") then Some (config, []) else None
split_from config (line ∷ next ∷ more) =
    if is_mark line then Some (config, join_with_byte 10 (next ∷ more))
    else split_from (config ++ (line ++ 10 ∷ [])) (next ∷ more)

-- the configuration and the body of a text, if it has the mark
unfoldable pub split_of : List ℕ → Option (List ℕ × List ℕ)
split_of text = split_from [] (slice_split (λ byte. byte == 10) text)

-- the configuration's text and the body of an input; with the sample the whole input is the body
abbrev pub parts_of : Bool → List ℕ → List ℕ → Option (List ℕ × List ℕ)
parts_of sample profile input = if sample then Some (profile, input) else split_of input

-- the configuration is what this text says
abbrev pub IsConfig : List ℕ → Config → Type 0
IsConfig text config = IsReadAs (parse_document text) config

-- the configuration is what the first part says, and the body is the second
abbrev pub HasParts : Option (List ℕ × List ℕ) → Config → List ℕ → Type 0
HasParts parts config body = IsSomeAnd parts (λ p. IsConfig p.0 config × (body ≡ p.1))

-- the first refusal of the configuration is this fault, or memory ran out
abbrev pub HasConfigFault : List ℕ → Fault → Type 0
HasConfigFault text fault = fault ≢ OutOfMemory → option_map fault_of (refusal_of (parse_document text)) ≡ Some fault

-- there are no parts, or the configuration has this fault
abbrev pub IsRefused : Option (List ℕ × List ℕ) → Fault → Type 0
IsRefused None fault = fault ≡ InputHasNoMark
IsRefused (Some p) fault = HasConfigFault p.0 fault

-- some line of the text is `---`
abbrev pub has_mark : List ℕ → Bool
has_mark text = list_any (λ line. bytes_eq line (codes "---")) (lines text)

-- the input has this fault whatever its body is for: its length is looked at first, then its bytes, then its two parts
abbrev pub HasInputFault : Bool → List ℕ → List ℕ → Fault → Type 0
HasInputFault sample profile input InputTooLong = IsTooLong input
HasInputFault sample profile input InputNotUtf8 = IsNoText input
HasInputFault sample profile input fault = IsText input × IsRefused (parts_of sample profile input) fault
