-- What a configuration's table holds at a key.
use Rattle.std.specs.Prelude.{ℕ, ◌≤◌, pos, List, Bool, true, false, ◌&&◌, ◌||◌, ◌==◌, IsTrue, nat_le, Option, None, is_some, option_and_then, if◌then◌else◌}
use Rattle.std.specs.Option.{option_map_or}
use Rattle.toml.specs.Data.{Data, Members, get_member, integer, string, boolean}
use Rattle.ddr_timing.specs.declared.geometry.Digit.{Digit}
use Rattle.ddr_timing.specs.declared.key.Key.{Key}
use Rattle.ddr_timing.specs.declared.key.Key.TheVariants.{Version}
use Rattle.ddr_timing.specs.declared.key.Domain.{Domain}
use Rattle.ddr_timing.specs.declared.key.Domain.TheVariants.{Within, PowerOfTwo, TwoOrFour, Order, Flag}
use Rattle.ddr_timing.specs.Keys.{keys, name_of}
use Rattle.ddr_timing.specs.Order.{order_of, whole_text}

-- the value at the key
abbrev pub value_of : Members → Key → Option Data
value_of table key = get_member (name_of key) table

-- an integer from low to high
abbrev pub is_within : ℕ → ℕ → Data → Bool
is_within low high (integer (pos n)) = nat_le low n && nat_le n high
is_within low high _ = false

-- the value is one of the domain, in a version; whether an integer is a power of two is another question
abbrev pub is_in : ℕ → Domain → Data → Bool
is_in version (Within low high) value = is_within low high value
is_in version (PowerOfTwo low high) value = is_within low high value
is_in version TwoOrFour value = is_within 2 2 value || is_within 4 4 value
is_in version Order (string text) = is_some (order_of (whole_text version text))
is_in version Flag (boolean flag) = true
is_in version _ _ = false

-- the integer that a value is, and 0 of any other value
abbrev pub number_in : Data → ℕ
number_in (integer (pos n)) = n
number_in _ = 0

-- the order of the address digits that a value is, in a version
abbrev pub order_in : ℕ → Data → Option (List Digit)
order_in version (string text) = order_of (whole_text version text)
order_in version _ = None

-- the same at a key, and whether the value there is true
abbrev pub number_of : Members → Key → ℕ
number_of table key = option_map_or number_in (value_of table key) 0

-- the version by which a table is checked: 2 where it says so, else 1
abbrev pub version_of : Members → ℕ
version_of table = if number_of table Version == 2 then 2 else 1

-- the keys that the table is to have
abbrev pub keys_of : Members → List Key
keys_of table = keys (version_of table)

abbrev pub order_at : Members → Key → Option (List Digit)
order_at table key = option_and_then (order_in (version_of table)) (value_of table key)

abbrev pub flag_at : Members → Key → Bool
flag_at table key = option_map_or is_true (value_of table key) false
  where
    is_true : Data → Bool
    is_true (boolean flag) = flag
    is_true _ = false

-- the domain is one of integers
abbrev pub takes_number : Domain → Bool
takes_number Order = false
takes_number Flag = false
takes_number _ = true

-- the integer is one of the domain
abbrev pub FitsIn : Domain → ℕ → Type 0
FitsIn (Within low high) n = (low ≤ n) × (n ≤ high)
FitsIn (PowerOfTwo low high) n = (low ≤ n) × (n ≤ high)
FitsIn TwoOrFour n = IsTrue (n == 2 || n == 4)
FitsIn Order n = ⊥
FitsIn Flag n = ⊥
