-- The requests that were served, as numbers are taken of them.
use Rattle.ddr_measure.specs.declared.timed.Timed.{Timed}
use Rattle.ddr_ledger.specs.declared.released.ReleasedRequest.{ReleasedRequest}

-- a request with its cycles, and with how it found its bank
abbrev pub timed_of : ReleasedRequest → Timed
timed_of served = record {
  kind = served.ask.kind;
  found = served.found;
  arrived = served.ask.at;
  accepted = served.accepted;
  issued = served.issued;
  done = served.due;
  released = served.released;
}
