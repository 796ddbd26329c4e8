-- What a port submits or releases adds no command to a trace.
use Rattle.std.proofs.Common.{◌≡◌, ℕ, Ok, Err, refl, subst}
use Rattle.std.specs.List.{slice_get}
use Rattle.std.specs.Option.{option_map_or}
use Rattle.ddr_reorder.specs.Replies.{front_number}
use Rattle.ddr_ports.specs.Asked.{Asked}
use Rattle.ddr_ports.specs.State.{refusal_of, request_at}
use Rattle.ddr_ports.specs.declared.refusal.PortError.{PortError}
use Rattle.ddr_world.specs.declared.event.Outcome.TheVariants as outcome
use Rattle.ddr_world.specs.declared.event.Refusal.TheVariants as refusal
use Rattle.ddr_world.specs.declared.item.Item.TheVariants as item
use Rattle.ddr_world.specs.Events.{Release, Submit}
use Rattle.ddr_world.specs.Promise.{trace_at}
use Rattle.ddr_world.specs.Refusals.{refusal_from}
use Rattle.ddr_world.specs.State.{State, is_busy}
use Rattle.ddr_world.specs.Step.{Made, Step, made, with_port, with_channel, queued, after_submit, push_on, push_request, submit_by, submit, after_release, release_by, release, step}
use Rattle.ddr_rounds.specs.Rounds.{after, after_step}
use Rattle.ddr_rounds.proofs.StepCounts.{at_channel_has, at_port_has, either_has, maybe_has}
use Rattle.ddr_rounds.proofs.TraceLemmas.{KeepsTrace, set_still}

submit_keeps : (d : ℕ) (s : State) (p : ℕ) (asked : Asked) → KeepsTrace d s (submit s p asked)
submit_keeps d s p asked = at_port_has (KeepsTrace d s) s p (submit_by s p asked) (slice_get s.ports p) refl tt (λ port there.
    maybe_has (KeepsTrace d s) (λ (cause : PortError). Err (refusal_from cause))
    (option_map_or (push_request s p port asked) (request_at port.core asked) (Err refusal.OutOfRange)) (refusal_of port.core asked)
    (maybe_has (KeepsTrace d s) (push_request s p port asked) (Err refusal.OutOfRange) (request_at port.core asked) tt (λ r prepared.
    at_channel_has (KeepsTrace d s) s r.place.channel (push_on s p port asked r) (slice_get s.channels r.place.channel) refl tt
    (λ side found.
    either_has (KeepsTrace d s) (is_busy side) (Err (refusal.Busy r.place.channel))
    (made (with_channel r.place.channel (queued (item.Request r) side) (with_port p (after_submit asked port) s)) (outcome.Accepted r.number))
    tt
    (set_still s.channels r.place.channel d side (queued (item.Request r) side) found refl))))
    (λ cause is. tt))

release_keeps : (d : ℕ) (s : State) (p : ℕ) → KeepsTrace d s (release s p)
release_keeps d s p = at_port_has (KeepsTrace d s) s p (release_by s p) (slice_get s.ports p) refl tt (λ port there.
    maybe_has (KeepsTrace d s) (λ number. made (with_port p (after_release port) s) (outcome.Released number)) (Err refusal.Nothing)
    (front_number port.core.reorder) tt (λ number front. refl))

-- a request that is accepted
pub submit_still : (d : ℕ) (s : State) (p : ℕ) (asked : Asked) (m : Made) → step s (Submit p asked) ≡ Ok m
    → trace_at m.state d ≡ trace_at s d
submit_still d s p asked m is = subst (KeepsTrace d s) is (submit_keeps d s p asked)

-- a reply that is released, if there is one

kept_still : (d : ℕ) (s : State) (r : Step) → KeepsTrace d s r → trace_at (after_step s r) d ≡ trace_at s d
kept_still d s (Ok m) is = is
kept_still d s (Err cause) is = refl

pub release_still : (d : ℕ) (s : State) (p : ℕ) → trace_at (after s (Release p)) d ≡ trace_at s d
release_still d s p = kept_still d s (step s (Release p)) (release_keeps d s p)
