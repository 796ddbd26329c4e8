-- The address map. An address is a line's number and an offset in the line; the line's number is written
-- in mixed radix, with the digits of the place in the configured order.
use Rattle.std.specs.Prelude.{ℕ, ◌+◌, ◌*◌, ◌/◌, ◌%◌, List, [], ◌∷◌, Bool, ◌&&◌, Option, Some, None, if◌then◌else◌, nat_lt, bit_xor}
use Rattle.ddr_timing.specs.declared.geometry.Digit.{Digit}
use Rattle.ddr_timing.specs.declared.geometry.Digit.TheVariants.{Channel, Group, Bank, Column, Row, Rank}
use Rattle.ddr_timing.specs.declared.geometry.Geometry.{Geometry}
use Rattle.ddr_timing.specs.declared.units.TheConstants.{GROUP_BANKS, LINE_BYTES, LINE_COLUMNS}
use Rattle.ddr_timing.specs.Order.{same_digit}
use Rattle.ddr_address_map.specs.declared.place.Place.{Place}

-- how many values a digit has
abbrev pub size_of : Geometry → Digit → ℕ
size_of shape Channel = shape.channels
size_of shape Group = shape.groups
size_of shape Bank = GROUP_BANKS
size_of shape Column = shape.columns / LINE_COLUMNS
size_of shape Row = shape.rows
size_of shape Rank = shape.ranks

-- the bytes of the memory
abbrev pub capacity_of : Geometry → ℕ
capacity_of shape = LINE_BYTES * (shape.channels * shape.ranks * shape.groups * GROUP_BANKS * (shape.columns / LINE_COLUMNS) * shape.rows)

-- one digit of a number in mixed radix; the order has the least significant digit first
unfoldable pub digit_of : (Digit → ℕ) → List Digit → ℕ → Digit → ℕ
digit_of size [] number digit = 0
digit_of size (first ∷ rest) number digit =
    if same_digit digit first then number % size first else digit_of size rest (number / size first) digit

-- the number that has those digits
unfoldable pub number_of : (Digit → ℕ) → List Digit → (Digit → ℕ) → ℕ
number_of size [] value = 0
number_of size (first ∷ rest) value = value first + size first * number_of size rest value

-- each part of a place, as a digit
abbrev pub digit_in : Place → Digit → ℕ
digit_in place Channel = place.channel
digit_in place Group = place.group
digit_in place Bank = place.bank
digit_in place Column = place.line
digit_in place Row = place.row
digit_in place Rank = place.rank

-- the place with those digits and that offset
abbrev pub place_with : (Digit → ℕ) → ℕ → Place
place_with value byte =
    record { channel = value Channel; rank = value Rank; group = value Group; bank = value Bank; row = value Row; line = value Column; offset = byte }

-- the place whose bank is the bank digit XOR (row mod 4), where the configuration asks for that; and so
-- also the way back
abbrev pub with_bank_xor : Geometry → Place → Place
with_bank_xor shape place =
    if shape.bank_xor then record place { bank = bit_xor place.bank (place.row % GROUP_BANKS) } else place

-- each part of the place is below its size
abbrev pub in_range : Geometry → Place → Bool
in_range shape place =
    nat_lt place.channel shape.channels
    && nat_lt place.rank shape.ranks
    && nat_lt place.group shape.groups
    && nat_lt place.bank GROUP_BANKS
    && nat_lt place.row shape.rows
    && nat_lt place.line (shape.columns / LINE_COLUMNS)
    && nat_lt place.offset LINE_BYTES

-- where an address lies
unfoldable pub place_of : Geometry → ℕ → Option Place
place_of shape addr =
    if nat_lt addr (capacity_of shape)
    then Some (with_bank_xor shape (place_with (digit_of (size_of shape) shape.map (addr / LINE_BYTES)) (addr % LINE_BYTES)))
    else None

-- the address of a place
unfoldable pub address_of : Geometry → Place → Option ℕ
address_of shape place =
    if in_range shape place
    then Some (LINE_BYTES * number_of (size_of shape) shape.map (digit_in (with_bank_xor shape place)) + place.offset)
    else None
