-- How many requests of each kind there are.
use Rattle.std.specs.Prelude.{ℕ, ◌+◌, ◌-◌, ◌^◌, min, List, fold}
use Rattle.ddr_address_map.specs.declared.request.Kind.{Kind}
use Rattle.ddr_address_map.specs.declared.request.Kind.TheVariants.{Read, Write}
use Rattle.ddr_stream.specs.declared.ask.Ask.{Ask}
use Rattle.ddr_stream.specs.declared.requests.Requests.{Requests}

abbrev pub no_requests : Requests
no_requests = record { reads = 0; writes = 0 }

-- one more, or as many as are counted
abbrev pub raised : ℕ → ℕ
raised number = min (number + 1) (2 ^ 64 - 1)

-- a request of this kind more
abbrev pub with_request : Kind → Requests → Requests
with_request Read requests = record requests { reads = raised requests.reads }
with_request Write requests = record requests { writes = raised requests.writes }

-- and those of a list
abbrev pub with_requests : Requests → List Ask → Requests
with_requests requests asks = fold (λ counted ask. with_request ask.kind counted) requests asks

abbrev pub requests_in : List Ask → Requests
requests_in asks = with_requests no_requests asks
