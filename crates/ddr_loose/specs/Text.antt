-- What comes of the bytes that a host hands over as a configuration's text.
use Rattle.std.specs.Prelude.{◌≡◌, ◌⊎◌, ℕ, List, ◌++◌, drop, length, take, Some, Result, Ok, Err}
use Rattle.std.specs.Str.{IsUtf8}
use Rattle.toml.specs.Parse.{parse_document}
use Rattle.ddr_timing.specs.declared.config.Config.{Config}
use Rattle.ddr_timing.specs.declared.error.ConfigError.{ConfigError}
use Rattle.ddr_timing.specs.Refusals.{refusal_of}
use Rattle.ddr_timing.specs.Values.{IsReadAs}
use Rattle.ddr_loose.specs.declared.text.Unread.{Unread}
use Rattle.ddr_loose.specs.declared.text.Unread.TheVariants as unread

-- the text is none of a configuration: it is no UTF-8, or is refused
abbrev pub IsRefusedText : List ℕ → Type 0
IsRefusedText text = (¬ (IsUtf8 text)) ⊎ ((cause : ConfigError) × (refusal_of (parse_document text) ≡ Some cause))

-- the configuration is what the text is read as; or there is none, since the text is refused, or it is UTF-8 and memory was refused
abbrev pub IsRead : List ℕ → Result Config Unread → Type 0
IsRead text (Ok config) = IsUtf8 text × IsReadAs (parse_document text) config
IsRead text (Err unread.Refused) = IsRefusedText text
IsRead text (Err unread.OutOfMemory) = IsUtf8 text

-- a text in front of what is there, as far as it fits
abbrev pub message_after : List ℕ → List ℕ → List ℕ
message_after text there = take (length there) text ++ drop (length text) there

-- a refusal's text is shown, with its whole length
abbrev pub IsMessage : List ℕ → List ℕ → ℕ → Type 0
IsMessage old new length_new = (text : List ℕ) × (new ≡ message_after text old) × (length_new ≡ length text)

-- of a refused text, and else nothing is written
abbrev pub IsTold : Unread → List ℕ → List ℕ → ℕ → ℕ → Type 0
IsTold unread.Refused old new length_old length_new = IsMessage old new length_new
IsTold unread.OutOfMemory old new length_old length_new = (new ≡ old) × (length_new ≡ length_old)

abbrev pub IsShown : Result Config Unread → List ℕ → List ℕ → ℕ → ℕ → Type 0
IsShown (Ok config) old new length_old length_new = (new ≡ old) × (length_new ≡ length_old)
IsShown (Err cause) old new length_old length_new = IsTold cause old new length_old length_new
