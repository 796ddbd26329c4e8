-- Whose captured commands are.
use Rattle.std.specs.Prelude.{ℕ, Bool, false, ◌==◌, nat_le, nat_lt, if◌then◌else◌, Option, Some, None, Result, Ok, Err}
use Rattle.std.specs.Option.{option_map_or}
use Rattle.ddr_text.specs.declared.fault.LineFault.{LineFault}
use Rattle.ddr_text.specs.declared.fault.LineFault.TheVariants.{NoSuch, Number}
use Rattle.ddr_capture.specs.declared.form.Form.{Form}

-- the one channel whose they are is none of so many
abbrev pub is_missing : Form → ℕ → Bool
is_missing form channels = option_map_or (λ only. nat_le channels only) form.channel false

-- in a capture of one channel a command that names none is of that channel, and none is of another
abbrev pub of_one : ℕ → Option ℕ → Result ℕ LineFault
of_one only None = Ok only
of_one only (Some named) = if named == only then Ok only else Err NoSuch

-- in a capture of all channels a command has to name its own, unless there is one channel
abbrev pub of_all : ℕ → Option ℕ → Result ℕ LineFault
of_all channels None = if channels == 1 then Ok 0 else Err Number
of_all channels (Some named) = if nat_lt named channels then Ok named else Err NoSuch

-- the channel of a command that names this one, of so many
abbrev pub channel_of : Form → ℕ → Option ℕ → Result ℕ LineFault
channel_of form channels named = option_map_or (λ only. of_one only named) form.channel (of_all channels named)
