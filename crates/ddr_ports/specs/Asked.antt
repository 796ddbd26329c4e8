-- What a host asks for: which bytes, and what a request says of it.
use Rattle.std.specs.Prelude.{ℕ, ◌+◌, ◌-◌, ◌*◌, ◌/◌, ◌%◌, ◌^◌, Bool, nat_le, List, ◌++◌, length, replicate}
use Rattle.ddr_timing.specs.declared.units.TheConstants.{LINE_BYTES}
use Rattle.ddr_address_map.specs.declared.request.Echo.{Echo}
use Rattle.ddr_address_map.specs.declared.request.Kind.{Kind}
use Rattle.ddr_address_map.specs.declared.request.Kind.TheVariants as kind
use Rattle.ddr_ports.specs.declared.request.Request.{Request}
use Rattle.ddr_ports.specs.declared.request.Request.TheVariants as request

-- a read of so many bytes from an address on, a write of bytes from an address on, and a write of the
-- enabled bytes of the line that holds an address
pub data Asked : Type 0 where
  Read : ℕ → ℕ → Asked
  Write : ℕ → List ℕ → Asked
  Masked : ℕ → List ℕ → ℕ → Asked

-- what a request asks for, without where its bytes lie in memory
abbrev pub asked_of : Request → Asked
asked_of (request.Read addr len) = Read addr len
asked_of (request.Write addr bytes) = Write addr bytes.now
asked_of (request.Masked addr bytes enable) = Masked addr bytes.now enable

abbrev pub kind_of : Asked → Kind
kind_of (Read addr len) = kind.Read
kind_of (Write addr bytes) = kind.Write
kind_of (Masked addr bytes enable) = kind.Write

-- the first address; that of a masked write is its line's
abbrev pub first_address : Asked → ℕ
first_address (Read addr len) = addr
first_address (Write addr bytes) = addr
first_address (Masked addr bytes enable) = LINE_BYTES * (addr / LINE_BYTES)

-- how many bytes from there on
abbrev pub len_of : Asked → ℕ
len_of (Read addr len) = len
len_of (Write addr bytes) = length bytes
len_of (Masked addr bytes enable) = LINE_BYTES

-- what the reply repeats
abbrev pub echo_of : Asked → Echo
echo_of asked = record { kind = kind_of asked; addr = first_address asked; len = len_of asked }

-- all bytes lie in the line of the first
abbrev pub is_within_line : Asked → Bool
is_within_line asked = nat_le (first_address asked % LINE_BYTES + len_of asked) LINE_BYTES

-- so many set bits, from this place on
abbrev pub bits_from : ℕ → ℕ → ℕ
bits_from start count = 2 ^ (start + count) - 2 ^ start

-- the data mask: bit i is set where byte i of the line is written
abbrev pub mask_of : Asked → ℕ
mask_of (Read addr len) = 0
mask_of (Write addr bytes) = bits_from (addr % LINE_BYTES) (length bytes)
mask_of (Masked addr bytes enable) = enable

-- the line that has these bytes from this place on, and zeros elsewhere
abbrev pub line_with : ℕ → List ℕ → List ℕ
line_with start bytes = replicate start 0 ++ (bytes ++ replicate (LINE_BYTES - (start + length bytes)) 0)

-- the line: the bytes to be written in their places
abbrev pub line_of : Asked → List ℕ
line_of (Read addr len) = replicate LINE_BYTES 0
line_of (Write addr bytes) = line_with (addr % LINE_BYTES) bytes
line_of (Masked addr bytes enable) = bytes
