-- What contracts see of a port, and what each call makes of it.
use Rattle.std.specs.Prelude.{ℕ, Bool, true, false, not, ◌==◌, if◌then◌else◌, Option, Some, is_none}
use Rattle.std.specs.Option.{option_map}
use Rattle.ddr_timing.specs.declared.config.Config.{Config}
use Rattle.ddr_timing.specs.declared.geometry.Geometry.{Geometry}
use Rattle.ddr_address_map.specs.declared.place.Place.{Place}
use Rattle.ddr_address_map.specs.Map.{place_of}
use Rattle.ddr_address_map.specs.Requests.{Request, Completion}
use Rattle.ddr_reorder.specs.declared.reply.Service.{Service}
use Rattle.ddr_reorder.specs.State as reorder
use Rattle.ddr_reorder.specs.State.{ReorderState, issue_refusal, after_issue, after_recall}
use Rattle.ddr_ports.specs.Asked.{Asked, echo_of, first_address, len_of, is_within_line, mask_of, line_of}
use Rattle.ddr_ports.specs.Refusals.{refusal_from}
use Rattle.ddr_ports.specs.declared.refusal.PortError.{PortError}
use Rattle.ddr_ports.specs.declared.refusal.PortError.TheVariants.{Finished, OutOfRange, EmptyLength, CrossesLine}

pub record PortState : Type 0 where
  pub port : ℕ
  -- the memory's shape, by which addresses have their places
  pub geometry : Geometry
  -- the window, the next number and the outstanding list
  pub reorder : ReorderState
  -- the port prepares no more requests
  pub finished : Bool

-- before the first request
abbrev pub opened : Config → ℕ → ℕ → PortState
opened config port first = record {
  port = port;
  geometry = config.geometry;
  reorder = reorder.opened config.limits.window first;
  finished = false;
}

-- why a request is not prepared, if there is a cause: the first that applies
abbrev pub refusal_of : PortState → Asked → Option PortError
refusal_of s asked =
    if s.finished then Some Finished
    else if is_none (place_of s.geometry (first_address asked)) then Some OutOfRange
    else if len_of asked == 0 then Some EmptyLength
    else if not (is_within_line asked) then Some CrossesLine
    else option_map refusal_from (issue_refusal s.reorder)

-- the request for what is asked at a place, with the next number
abbrev pub request_with : PortState → Asked → Place → Request
request_with s asked place = record {
  port = s.port;
  number = s.reorder.next;
  echo = echo_of asked;
  place = place;
  mask = mask_of asked;
  line = line_of asked;
}

-- the request for what is asked, at the place of its first address
abbrev pub request_at : PortState → Asked → Option Request
request_at s asked = option_map (request_with s asked) (place_of s.geometry (first_address asked))

-- after a request was prepared
abbrev pub after_prepare : PortState → Asked → PortState
after_prepare s asked = record s { reorder = after_issue (echo_of asked) s.reorder }

-- after the newest request was taken back
abbrev pub after_retract : PortState → PortState
after_retract s = record s { reorder = after_recall s.reorder }

-- when a completed request was served
abbrev pub service_of : Completion → Service
service_of done = record { issued = done.issued; due = done.due }

-- after a completed request has come back
abbrev pub after_fill : Completion → PortState → PortState
after_fill done s = record s { reorder = reorder.after_fill done.number (service_of done) done.line s.reorder }

-- after the oldest reply was given up
abbrev pub after_release : PortState → PortState
after_release s = record s { reorder = reorder.after_release s.reorder }

-- after the port was finished
abbrev pub after_finish : PortState → PortState
after_finish s = record s { finished = true }
