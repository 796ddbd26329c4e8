-- What requests leave in the memory, byte by byte.
use Rattle.std.specs.Prelude.{ℕ, Bool, true, false, ◌&&◌, ◌==◌, List, map, fold, if◌then◌else◌, slice_index}
use Rattle.std.specs.List.{range_with_len}
use Rattle.std.specs.Int.{bit_at}
use Rattle.ddr_timing.specs.declared.units.TheConstants.{LINE_BYTES}
use Rattle.ddr_address_map.specs.declared.place.Place.{Place}
use Rattle.ddr_address_map.specs.declared.request.Kind.{Kind}
use Rattle.ddr_address_map.specs.declared.request.Kind.TheVariants.{Read, Write}
use Rattle.ddr_address_map.specs.Requests.{Request}

-- a line of the channel: its rank, group, bank and row, and its place in the row
pub record LineAddress : Type 0 where
  pub rank : ℕ
  pub group : ℕ
  pub bank : ℕ
  pub row : ℕ
  pub line : ℕ

abbrev pub line_of : Place → LineAddress
line_of place = record { rank = place.rank; group = place.group; bank = place.bank; row = place.row; line = place.line }

abbrev pub is_same_line : LineAddress → LineAddress → Bool
is_same_line a b = a.rank == b.rank && (a.group == b.group && (a.bank == b.bank && (a.row == b.row && a.line == b.line)))

abbrev pub is_write_kind : Kind → Bool
is_write_kind Write = true
is_write_kind Read = false

-- the request writes byte i of the line: bit i of its data mask is set
abbrev pub writes_byte : LineAddress → ℕ → Request → Bool
writes_byte address i r = is_write_kind r.echo.kind && is_same_line address (line_of r.place) && bit_at r.mask i == 1

-- byte i of the line after the requests, one after another: each write's enabled byte replaces the one before
abbrev pub byte_over : ℕ → List Request → LineAddress → ℕ → ℕ
byte_over before requests address i =
    fold (λ byte r. if writes_byte address i r then slice_index r.line i else byte) before requests

-- the bytes of the line, each after the requests
abbrev pub line_over : List ℕ → List Request → LineAddress → List ℕ
line_over before requests address = map (λ i. byte_over (slice_index before i) requests address i) (range_with_len 0 LINE_BYTES)

-- the line after the requests, from a memory of zeros
abbrev pub line_after : List Request → LineAddress → List ℕ
line_after requests address = map (λ i. byte_over 0 requests address i) (range_with_len 0 LINE_BYTES)
