-- The clocks between two steps of a request.
use Rattle.std.specs.Prelude.{ℕ, ◌-◌, List, codes}
use Rattle.ddr_measure.specs.declared.span.Span.{Span}
use Rattle.ddr_measure.specs.declared.span.Span.TheVariants.{ArrivedToAccepted, AcceptedToIssued, IssuedToDone, AcceptedToDone, DoneToReleased, ArrivedToReleased}
use Rattle.ddr_measure.specs.declared.timed.Timed.{Timed}

abbrev pub clocks_of : Span → Timed → ℕ
clocks_of ArrivedToAccepted request = request.accepted - request.arrived
clocks_of AcceptedToIssued request = request.issued - request.accepted
clocks_of IssuedToDone request = request.done - request.issued
clocks_of AcceptedToDone request = request.done - request.accepted
clocks_of DoneToReleased request = request.released - request.done
clocks_of ArrivedToReleased request = request.released - request.arrived

abbrev pub name_of : Span → List ℕ
name_of ArrivedToAccepted = codes "arrived_to_accepted"
name_of AcceptedToIssued = codes "accepted_to_issued"
name_of IssuedToDone = codes "issued_to_done"
name_of AcceptedToDone = codes "accepted_to_done"
name_of DoneToReleased = codes "done_to_released"
name_of ArrivedToReleased = codes "arrived_to_released"
