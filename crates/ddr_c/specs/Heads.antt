-- A reply's head in C's form.
use Rattle.std.specs.Prelude.{ℕ}
use Rattle.ddr_address_map.specs.declared.request.Kind.{Kind}
use Rattle.ddr_address_map.specs.declared.request.Kind.TheVariants.{Read, Write}
use Rattle.ddr_c.specs.declared.head.Head.{Head}
use Rattle.ddr_c.specs.declared.head.TheConstants.{READ, WRITE}
use Rattle.ddr_c.specs.declared.host.Front.{Front}

abbrev pub kind_of : Kind → ℕ
kind_of Read = READ
kind_of Write = WRITE

-- of a reply that is handed over at this clock
abbrev pub head_of : Front → ℕ → Head
head_of front clock = record {
  number = front.number;
  addr = front.echo.addr;
  bytes = front.length;
  length = front.echo.len;
  kind = kind_of front.echo.kind;
  accepted = front.accepted;
  issued = front.service.issued;
  due = front.service.due;
  released = clock;
}
