-- What a request of a stream asks a port for.
use Rattle.std.specs.Prelude.{ℕ, ◌*◌, ◌/◌, replicate}
use Rattle.ddr_timing.specs.declared.units.TheConstants.{LINE_BYTES}
use Rattle.ddr_address_map.specs.declared.request.Kind.{Kind}
use Rattle.ddr_address_map.specs.declared.request.Kind.TheVariants as kind
use Rattle.ddr_ports.specs.Asked.{Asked, Read, Masked}
use Rattle.ddr_stream.specs.declared.ask.Ask.{Ask}

-- a read of the whole line, or a write of none of its bytes
abbrev pub line_asked : Kind → ℕ → Asked
line_asked kind.Read addr = Read (LINE_BYTES * (addr / LINE_BYTES)) LINE_BYTES
line_asked kind.Write addr = Masked addr (replicate LINE_BYTES 0) 0

abbrev pub asked_by : Ask → Asked
asked_by ask = line_asked ask.kind ask.addr
