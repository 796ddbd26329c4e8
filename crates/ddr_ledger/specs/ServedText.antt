-- The text of the requests whose replies were released: comma-separated values.
use Rattle.std.specs.Prelude.{ℕ, List, [], ◌∷◌, ◌++◌, codes, flat_map, Option, Some, None}
use Rattle.std.specs.Fmt.{decimal}
use Rattle.ddr_statistics.specs.declared.counts.Finding.{Finding}
use Rattle.ddr_statistics.specs.declared.counts.Finding.TheVariants.{Hit, Miss, Conflict}
use Rattle.ddr_address_map.specs.declared.request.Kind.{Kind}
use Rattle.ddr_address_map.specs.declared.request.Kind.TheVariants.{Read, Write}
use Rattle.ddr_ledger.specs.declared.released.ReleasedRequest.{ReleasedRequest}

abbrev pub kind_word : Kind → List ℕ
kind_word Read = codes "read"
kind_word Write = codes "write"

-- what was asked for: line, port, number, operation, address, and the cycle from which on it might be submitted
unfoldable pub asked_fields : ReleasedRequest → List ℕ
asked_fields served =
    decimal served.ask.line ++ (codes "," ++ (decimal served.port ++ (codes "," ++ (decimal served.number ++ (codes "," ++ (kind_word served.ask.kind ++ (codes ","
    ++ (decimal served.ask.addr ++ (codes "," ++ decimal served.ask.at)))))))))

-- when it was accepted, issued, complete and released
unfoldable pub times_fields : ReleasedRequest → List ℕ
times_fields served =
    decimal served.accepted ++ (codes "," ++ (decimal served.issued ++ (codes "," ++ (decimal served.due ++ (codes "," ++ decimal served.released)))))

abbrev pub found_word : Option Finding → List ℕ
found_word (Some Hit) = codes "hit"
found_word (Some Miss) = codes "miss"
found_word (Some Conflict) = codes "conflict"
found_word None = []

-- how it found its bank stands last
unfoldable pub served_line : ReleasedRequest → List ℕ
served_line served = asked_fields served ++ (codes "," ++ (times_fields served ++ (codes "," ++ (found_word served.found ++ 10 ∷ []))))

abbrev pub served_head : List ℕ
served_head = codes "line,port,number,op,addr,at,accepted,issued,done,released,found" ++ 10 ∷ []

-- a line that names the columns, and a line for each request
unfoldable pub served_text : List ReleasedRequest → List ℕ
served_text all = served_head ++ flat_map served_line all
