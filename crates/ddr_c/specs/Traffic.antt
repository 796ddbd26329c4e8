-- What came of the requests of ports.
use Rattle.std.specs.Prelude.{ℕ, ◌-◌, List, Option, Result, Ok, Err, slice_index_or, slice_set}
use Rattle.std.specs.Option.{option_map}
use Rattle.ddr_address_map.specs.declared.request.Kind.{Kind}
use Rattle.ddr_address_map.specs.declared.request.Kind.TheVariants.{Read, Write}
use Rattle.ddr_measure.specs.Distributions.{bound_of, no_distribution, with_value}
use Rattle.ddr_measure.specs.declared.distribution.Distribution.{Distribution}
use Rattle.ddr_reorder.specs.declared.reply.Service.{Service}
use Rattle.ddr_statistics.specs.Noted.{raised}
use Rattle.ddr_world.specs.declared.event.Outcome.{Outcome}
use Rattle.ddr_world.specs.declared.event.Refusal.{Refusal}
use Rattle.ddr_world.specs.declared.event.Refusal.TheVariants.{Busy, WindowFull}
use Rattle.ddr_world.specs.declared.world.Counts.{Counts}
use Rattle.ddr_world.specs.State.{PortSide}
use Rattle.ddr_world.specs.Told.{counts_of}
use Rattle.ddr_c.specs.declared.host.Front.{Front}
use Rattle.ddr_c.specs.declared.host.Next.{Next}
use Rattle.ddr_c.specs.declared.host.Next.TheVariants as next
use Rattle.ddr_c.specs.declared.numbers.PortNumbers.{PortNumbers}
use Rattle.ddr_c.specs.declared.numbers.RequestNumbers.{RequestNumbers}
use Rattle.ddr_c.specs.declared.numbers.Spread.{Spread}
use Rattle.ddr_c.specs.declared.traffic.Took.{Took}
use Rattle.ddr_c.specs.declared.traffic.Traffic.{Traffic}

abbrev pub no_took : Took
no_took = record { to_issue = no_distribution; to_done = no_distribution; to_release = no_distribution }

abbrev pub no_traffic : Traffic
no_traffic = record { full_window = 0; full_queue = 0; reads = no_took; writes = no_took }

-- a request was refused so
abbrev pub refused : Refusal → Traffic → Traffic
refused WindowFull traffic = record traffic { full_window = raised 1 traffic.full_window }
refused (Busy channel) traffic = record traffic { full_queue = raised 1 traffic.full_queue }
refused _ traffic = traffic

-- one request more, accepted and served so, whose reply is taken at this clock
abbrev pub took_more : ℕ → Service → ℕ → Took → Took
took_more accepted service released took = record {
  to_issue = with_value (service.issued - accepted) took.to_issue;
  to_done = with_value (service.due - accepted) took.to_done;
  to_release = with_value (released - accepted) took.to_release;
}

abbrev pub taken_as : Kind → ℕ → Service → ℕ → Traffic → Traffic
taken_as Read accepted service released traffic = record traffic { reads = took_more accepted service released traffic.reads }
taken_as Write accepted service released traffic = record traffic { writes = took_more accepted service released traffic.writes }

abbrev pub taken : Front → ℕ → Traffic → Traffic
taken front clock traffic = taken_as front.echo.kind front.accepted front.service clock traffic

-- that of a port
abbrev pub traffic_at : List Traffic → ℕ → Traffic
traffic_at all port = slice_index_or all port no_traffic

-- a port refused a request so
abbrev pub with_refused : ℕ → Refusal → List Traffic → List Traffic
with_refused port cause all = slice_set all port (refused cause (traffic_at all port))

-- what a port answered to a request
abbrev pub with_answer : ℕ → Result Outcome Refusal → List Traffic → List Traffic
with_answer port (Ok o) all = all
with_answer port (Err cause) all = with_refused port cause all

-- a reply of a port was taken at this clock
abbrev pub with_taken : ℕ → Front → ℕ → List Traffic → List Traffic
with_taken port front clock all = slice_set all port (taken front clock (traffic_at all port))

-- what became of the reply in front of it
abbrev pub with_next : ℕ → Next → ℕ → List Traffic → List Traffic
with_next port (next.Given front) clock all = with_taken port front clock all
with_next port _ clock all = all

-- in C's form

abbrev pub spread_of : Distribution → Spread
spread_of d = record {
  count = d.count;
  clocks = d.sum;
  least = d.least;
  most = d.most;
  p50 = bound_of 500 d;
  p90 = bound_of 900 d;
  p99 = bound_of 990 d;
  p999 = bound_of 999 d;
}

abbrev pub requests_of : Took → RequestNumbers
requests_of took = record { to_issue = spread_of took.to_issue; to_done = spread_of took.to_done; to_release = spread_of took.to_release }

abbrev pub port_numbers : Counts → Traffic → PortNumbers
port_numbers counts traffic = record {
  accepted = counts.accepted;
  taken = counts.taken;
  full_window = traffic.full_window;
  full_queue = traffic.full_queue;
  reads = requests_of traffic.reads;
  writes = requests_of traffic.writes;
}

-- of a port, if there is one
abbrev pub port_numbers_of : Option PortSide → Traffic → Option PortNumbers
port_numbers_of side traffic = option_map (λ s. port_numbers (counts_of s) traffic) side
