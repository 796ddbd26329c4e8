-- The ports of a system that was opened, and the ends of all that a run opened.
use Rattle.std.proofs.Common.{◌≡◌, ℕ, ◌<◌, List, [], ◌∷◌, length, map, Option, Some, slice_get, refl, sym, ap, subst, ◌∙◌, arith}
use Rattle.ddr_timing.specs.declared.config.Config.{Config}
use Rattle.ddr_world.specs.declared.item.Item.{Item}
use Rattle.ddr_workers.specs.declared.requests.Route.{Route}
use Rattle.ddr_workers.specs.Closing.{AreAllEnds, AreComplete, AreMatched}
use Rattle.ddr_workers.specs.Open.{IsOpened, IsOpenedAt}
use Rattle.ddr_workers.specs.Port.{PortState, PortEnded, IsEndOfPort}
use Rattle.ddr_workers.specs.Sides.{PutSide, new_put}
use Rattle.ddr_workers.specs.Worker.{WorkerState, WorkerEnded}
use Rattle.ddr_workers.proofs.ChangedLemmas.{some_there}
use Rattle.ddr_run.specs.declared.hosting.Hosted.{Hosted}
use Rattle.ddr_run.specs.declared.run.TheConstants.{RUN}
use Rattle.ddr_run.specs.declared.threads.Ended.{Ended}
use Rattle.ddr_text.specs.Script.{Instruction}
use Rattle.ddr_run.specs.Threads.{AreEnded, AreNewPorts, IsHostedFrom}

new_side : (o : Option (PutSide Route Item)) (new side : PutSide Route Item) → o ≡ Some new → o ≡ Some side → new.put ≡ [] → side.put ≡ []
new_side o new side is_new is_side empty = let same : new ≡ side = cc in ap (λ (x : PutSide Route Item). x.put) (sym same) ∙ empty

pub new_ports : (config : Config) (first id : ℕ) (ports : List PortState) (workers : List WorkerState) → IsOpenedAt config first id ports workers → AreNewPorts ports
new_ports config first id ports workers system k p is =
    let new = system.port k p is in
    record {
      port = ap (λ (s : PortState). s.core.port) new;
      taken = ap (λ (s : PortState). s.taken) new;
      next = ap (λ (s : PortState). s.core.reorder.next) new;
      outstanding = ap (λ (s : PortState). s.core.reorder.outstanding) new;
      pushed = λ c side below there.
          let channels : p.core.geometry.channels ≡ config.geometry.channels = ap (λ (s : PortState). s.core.geometry.channels) new in
          let w = some_there workers c (omega (arith, below, channels, system.workers_are)) in
          new_side (slice_get p.requests c) (new_put w.0.requests.who.queue k) side (system.requests k c p w.0 is w.1) there refl;
    }

port_ends : (instructions : List Instruction) (ports : List PortState) (hosted : List Hosted) → AreMatched (IsHostedFrom instructions) ports hosted → AreMatched IsEndOfPort ports (map (λ h. h.end) hosted)
port_ends instructions [] [] m = tt
port_ends instructions (p ∷ ports) (h ∷ hosted) m = (m.0.end, port_ends instructions ports hosted m.1)
port_ends instructions [] (h ∷ hosted) m = absurd m
port_ends instructions (p ∷ ports) [] m = absurd m

-- what the law of all ends says
abbrev AllEndsLaw : Type 0
AllEndsLaw =
    (config : Config) (first id : ℕ) (ports : List PortState) (workers : List WorkerState) (port_ends : List PortEnded) (worker_ends : List WorkerEnded) → IsOpenedAt config first id ports workers → 0 < length ports → 0 < length workers → AreAllEnds ports workers port_ends worker_ends
    → AreComplete id port_ends worker_ends

pub complete : AllEndsLaw → (config : Config) (instructions : List Instruction) (ports : List PortState) (workers : List WorkerState) (ended : Ended) (ends : List PortEnded) → 0 < config.limits.ports → 0 < config.geometry.channels → IsOpened config RUN ports workers
    → AreEnded ports workers instructions ended → ends ≡ map (λ h. h.end) ended.ports.items → AreComplete RUN ends ended.workers.items
complete law config instructions ports workers ended ends some_port some_channel system all ends_are =
    law config 0 RUN ports workers ends ended.workers.items system (omega (arith, some_port, system.ports_are)) (omega (arith, some_channel, system.workers_are)) (record {
      port = subst (AreMatched IsEndOfPort ports) (sym ends_are) (port_ends instructions ports ended.ports.items all.hosted);
      worker = all.worked;
    })
