use Rattle.std.proofs.Common.{rules, ◌≡◌, ◌++◌, ℕ, List, [], Some, slice_get, drop, take, length, map, sym, ap, subst, ◌∙◌}
use Rattle.std.specs.List.{filter_map}
use Rattle.ddr_workers.specs.Closing.{AreMatched}
use Rattle.ddr_workers.specs.Worker.{WorkerEnded, IsEndOf}
use Rattle.ddr_run.specs.declared.hosting.Hosted.{Hosted}
use Rattle.ddr_run.specs.declared.threads.Seat.{Seat}
use Rattle.ddr_text.specs.Script.{view}
use Rattle.ddr_run.specs.Threads.{IsHostedFrom, IsNewSeat, first_cause, seats_of, stop_in}
use Rattle.ddr_run.proofs.ThreadLemmas.{all_ended, new_seats, none_stopped, served_back}
use Rattle.ddr_run.proofs.threads.run_all.Goals as goal

pub run_seats-requires-after_bounds : goal.run_seats-requires-after_bounds
run_seats-requires-after_bounds g c κs outlives =
    subst (λ (xs : List Seat). (k : ℕ) (s : Seat) → slice_get xs k ≡ Some s → IsNewSeat s) (sym (c.as_mut_slice.ensures.value ∙ c.in_ok-seats.ensures)) (new_seats c.args.ports.items c.args.workers.items c.requires.numbers)

pub returns-in_ok-ends_of-in-None-clause-ended : goal.returns-in_ok-ends_of-in-None-clause-ended
returns-in_ok-ends_of-in-None-clause-ended g c =
    let script = map view c.args.instructions.now in
    let seats = c.in_ok-seats.seats in
    let new = c.run_seats.new.seats in
    let after = take seats.len (new ++ drop (length new) seats.items) in
    let whole : seats.len ≡ length new = search rules in
    let served = served_back script (seats_of c.args.ports.items c.args.workers.items) new seats.items seats.len (c.as_mut_slice.ensures.value ∙ c.in_ok-seats.ensures) whole c.run_seats.ensures.same c.run_seats.ensures.served in
    let none : filter_map stop_in after ≡ [] = none_stopped (filter_map stop_in after) (ap (λ (xs : List Seat). first_cause (filter_map stop_in xs)) (sym c.as_slice.ensures.value) ∙ sym c.first_stop.ensures ∙ c.in-None.is) in
    let ended = all_ended script c.args.ports.items c.args.workers.items after served none in
    record {
      hosted = subst (λ (hs : List Hosted). AreMatched (IsHostedFrom script) c.args.ports.items hs) (sym c.in_ok-ends_of-in-None.ensures.ports) ended.0;
      worked = subst (λ (es : List WorkerEnded). AreMatched IsEndOf c.args.workers.items es) (sym c.in_ok-ends_of-in-None.ensures.workers) ended.1;
    }

pub returns-in-Some-clause-stopped : goal.returns-in-Some-clause-stopped
returns-in-Some-clause-stopped g c not_memory =
    let script = map view c.args.instructions.now in
    let seats = c.in_ok-seats.seats in
    let new = c.run_seats.new.seats in
    let after = take seats.len (new ++ drop (length new) seats.items) in
    let whole : seats.len ≡ length new = search rules in
    let served = served_back script (seats_of c.args.ports.items c.args.workers.items) new seats.items seats.len (c.as_mut_slice.ensures.value ∙ c.in_ok-seats.ensures) whole c.run_seats.ensures.same c.run_seats.ensures.served in
    record {
      after = after;
      served = served;
      first = ap (λ (xs : List Seat). first_cause (filter_map stop_in xs)) (sym c.as_slice.ensures.value) ∙ sym c.first_stop.ensures ∙ c.in-Some.is;
    }
