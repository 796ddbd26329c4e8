-- Which values of a table are sound: there, of their type and in range.
use Rattle.std.specs.Prelude.{ℕ, List, Bool, ◌&&◌, not, Option, Some, None, if◌then◌else◌}
use Rattle.std.specs.List.{list_all}
use Rattle.toml.specs.Data.{Members}
use Rattle.ddr_timing.specs.declared.key.Key.{Key}
use Rattle.ddr_timing.specs.Keys.{has_key}
use Rattle.ddr_timing.specs.Refusals.{is_out_of_range}
use Rattle.ddr_timing.specs.Tables.{number_of, version_of}

-- the table's version has the key, and the value there is one of its domain
abbrev pub is_sound : Members → Key → Bool
is_sound table key = has_key (version_of table) key && not (is_out_of_range table key)

-- each of the keys is sound
abbrev pub are_sound : Members → List Key → Bool
are_sound table keys = list_all (is_sound table) keys

-- the integer at a key, where it is sound
abbrev pub sound_number : Members → Key → Option ℕ
sound_number table key = if is_sound table key then Some (number_of table key) else None
