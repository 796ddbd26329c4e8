-- What the rows of sides and the take sides give: ports and workers at the two ends of the same queues.
use Rattle.std.proofs.Common.{◌≡◌, ℕ, suc, false, replicate, ◌+◌, ◌<◌, List, [], ◌∷◌, All, length, Some, slice_get, refl, sym, ap, ap₂, ◌∙◌, subst, arith}
use Rattle.std.proofs.lemmas.List.Elements.{All-nil, All-cons}
use Rattle.std.proofs.lemmas.Option.{slice_get_within}
use Rattle.ddr_timing.specs.declared.config.Config.{Config}
use Rattle.ddr_address_map.specs.Requests.{Completion}
use Rattle.ddr_workers.specs.declared.completions.Delivery.{Delivery}
use Rattle.ddr_world.specs.declared.item.Item.{Item}
use Rattle.ddr_workers.specs.declared.requests.Route.{Route}
use Rattle.ddr_workers.specs.Lanes.{AreLanes, AreEach, AreFrom}
use Rattle.ddr_workers.specs.Open.{IsNewQueue, IsNewWorker, IsOpenedAt, IsPortOf, IsPortRow, IsWorkerRow, IsWorkerTake, new_port}
use Rattle.ddr_workers.specs.Port.{PortState}
use Rattle.ddr_workers.specs.Sides.{PutSide, TakeSide, new_put}
use Rattle.ddr_workers.specs.Worker.{WorkerState}
use Rattle.ddr_workers.proofs.ChangedLemmas.{some_there}
use Rattle.ddr_workers.proofs.LaneLemmas.{each_at, each_length, from_each}

pub from_none : (k : ℕ) → k ≡ 0 + k
from_none k = omega arith

module _ {S T : Type 0} (aim : ℕ → S) (most holders queues : ℕ) (rows : List (List (PutSide S T))) (takes : List (TakeSide S T)) (lanes : AreLanes aim most holders queues rows takes) where
  -- the queue of a side
  pub queue_of : (k q : ℕ) (row : List (PutSide S T)) (side : PutSide S T) → slice_get rows k ≡ Some row → slice_get row q ≡ Some side → (take : TakeSide S T) × (slice_get takes q ≡ Some take) × (side ≡ new_put take.who.queue k)
  queue_of k q row side row_there there =
      let within : q < length takes = omega (arith, slice_get_within row q side there, lanes.row k row row_there, lanes.takes_are) in
      let found = some_there takes q within in
      (found.0, found.1, lanes.put k q row side found.0 row_there there found.1)

  -- the side of a queue
  pub side_of : (k q : ℕ) (row : List (PutSide S T)) (take : TakeSide S T) → slice_get rows k ≡ Some row → slice_get takes q ≡ Some take → slice_get row q ≡ Some (new_put take.who.queue k)
  side_of k q row take row_there there =
      let within : q < length row = omega (arith, slice_get_within takes q take there, lanes.row k row row_there, lanes.takes_are) in
      let found = some_there row q within in
      found.1 ∙ ap (λ s. Some s) (lanes.put k q row found.0 take row_there found.1 there)

abbrev Routes : Config → List (List (PutSide Route Item)) → List (TakeSide Route Item) → Type 0
Routes config rows takes = AreLanes (λ channel. record { geometry = config.geometry; channel = channel }) config.limits.intake config.limits.ports config.geometry.channels rows takes

abbrev Deliveries : Config → List (List (PutSide Delivery Completion)) → List (TakeSide Delivery Completion) → Type 0
Deliveries config rows takes = AreLanes (λ port. record { geometry = config.geometry; port = port }) config.limits.window config.geometry.channels config.limits.ports rows takes

pub port_rows : (config : Config) (rows : List (List (PutSide Route Item))) (takes : List (TakeSide Route Item)) → Routes config rows takes → AreFrom (IsPortRow config.geometry) 0 rows
port_rows config rows takes lanes =
    from_each (IsPortRow config.geometry) 0 rows (λ k row there. subst (λ n. IsPortRow config.geometry n row) (from_none k) (record {
      channels = lanes.row k row there;
      side = λ c side side_there.
          let q = queue_of (λ (channel : ℕ). record { geometry = config.geometry; channel = channel }) config.limits.intake config.limits.ports config.geometry.channels rows takes lanes k c row side there side_there in
          record {
            source = ap (λ (s : PutSide Route Item). s.who.source) q.2;
            route = ap (λ (s : PutSide Route Item). s.who.queue.purpose) q.2 ∙ (lanes.new c q.0 q.1).purpose;
            put = ap (λ (s : PutSide Route Item). s.put) q.2;
          };
    }))

pub worker_rows : (config : Config) (rows : List (List (PutSide Delivery Completion))) (takes : List (TakeSide Delivery Completion)) → Deliveries config rows takes → AreFrom (IsWorkerRow config.geometry config.limits.ports) 0 rows
worker_rows config rows takes lanes =
    from_each (IsWorkerRow config.geometry config.limits.ports) 0 rows (λ k row there. subst (λ n. IsWorkerRow config.geometry config.limits.ports n row) (from_none k) (record {
      ports_are = lanes.row k row there;
      side = λ p side side_there.
          let q = queue_of (λ (port : ℕ). record { geometry = config.geometry; port = port }) config.limits.window config.geometry.channels config.limits.ports rows takes lanes k p row side there side_there in
          record {
            source = ap (λ (s : PutSide Delivery Completion). s.who.source) q.2;
            delivery = ap (λ (s : PutSide Delivery Completion). s.who.queue.purpose) q.2 ∙ (lanes.new p q.0 q.1).purpose;
            put = ap (λ (s : PutSide Delivery Completion). s.put) q.2;
          };
    }))

pub worker_takes : (config : Config) (rows : List (List (PutSide Route Item))) (takes : List (TakeSide Route Item)) → Routes config rows takes → AreFrom (IsWorkerTake config.geometry config.limits.ports) 0 takes
worker_takes config rows takes lanes =
    from_each (IsWorkerTake config.geometry config.limits.ports) 0 takes (λ k take there. subst (λ n. IsWorkerTake config.geometry config.limits.ports n take) (from_none k)
    (let new = lanes.new k take there in record { route = new.purpose; ports_are = new.count; took = new.took }))

pub all_from : {X : Type 0} (P : X → Type 0) (xs : List X) → ((k : ℕ) (x : X) → slice_get xs k ≡ Some x → P x) → All P xs
all_from P [] each = All-nil P
all_from P (x ∷ xs) each = All-cons P x xs (each 0 x refl) (all_from P xs (λ k y there. each (suc k) y there))

pub port_takes : (config : Config) (rows : List (List (PutSide Delivery Completion))) (takes : List (TakeSide Delivery Completion)) → Deliveries config rows takes → All (λ (take : TakeSide Delivery Completion). take.took ≡ []) takes
port_takes config rows takes lanes = all_from (λ (take : TakeSide Delivery Completion). take.took ≡ []) takes (λ k take there. (lanes.new k take there).took)

pub opened : (config : Config) (first id : ℕ) (rows : List (List (PutSide Route Item))) (takes : List (TakeSide Route Item)) (done_rows : List (List (PutSide Delivery Completion))) (done_takes : List (TakeSide Delivery Completion))
    (ports : List PortState) (workers : List WorkerState) → Routes config rows takes → Deliveries config done_rows done_takes
    → AreEach (IsPortOf config id) 0 rows done_takes ports → AreEach (IsNewWorker config first id) 0 done_rows takes workers → IsOpenedAt config first id ports workers
opened config first id rows takes done_rows done_takes ports workers routes deliveries each_port each_worker =
    let port_at = λ (p : ℕ) (port : PortState) (there : slice_get ports p ≡ Some port). each_at (IsPortOf config id) 0 p rows done_takes ports port each_port there in
    let worker_at = λ (c : ℕ) (w : WorkerState) (there : slice_get workers c ≡ Some w). each_at (IsNewWorker config first id) 0 c done_rows takes workers w each_worker there in
    let aim : ℕ → Route = λ channel. record { geometry = config.geometry; channel = channel } in
    let done_aim : ℕ → Delivery = λ port. record { geometry = config.geometry; port = port } in
    record {
      ports_are = each_length (IsPortOf config id) 0 rows done_takes ports each_port ∙ routes.rows_are;
      workers_are = each_length (IsNewWorker config first id) 0 done_rows takes workers each_worker ∙ deliveries.rows_are;
      port = λ p port there.
          let e = port_at p port there in
          e.is ∙ ap₂ (λ r t. new_port config id (0 + p) r t) (sym (ap (λ (s : PortState). s.requests) e.is)) (sym (ap (λ (s : PortState). s.completions) e.is))
          ∙ ap (λ n. new_port config id n port.requests port.completions) (sym (from_none p));
      worker = λ c w there.
          let e = worker_at c w there in
          let is = e.is in
          subst (λ n. IsNewWorker config first id n w.completions w.requests w) (sym (from_none c)) (record {
            id_is = is.id_is;
            number_is = is.number_is;
            channel = is.channel;
            requests_are = refl;
            completions_are = refl;
            held = is.held;
            noted = is.noted ∙ ap (λ xs. replicate (length xs) false) (sym is.completions_are);
          });
      sides = λ p port there.
          let e = port_at p port there in
          ap (λ (s : PortState). length s.requests) e.is ∙ routes.row p e.row e.row_there;
      done_sides = λ c w there.
          let e = worker_at c w there in
          ap length e.is.completions_are ∙ deliveries.row c e.row e.row_there;
      intake = λ c w there.
          let e = worker_at c w there in
          subst (IsNewQueue (aim c) config.limits.intake config.limits.ports) (sym e.is.requests_are) (routes.new c e.y e.y_there);
      requests = λ p c port w there w_there.
          let e = port_at p port there in
          let f = worker_at c w w_there in
          ap (λ (s : PortState). slice_get s.requests c) e.is ∙ side_of aim config.limits.intake config.limits.ports config.geometry.channels rows takes routes p c e.row f.y e.row_there f.y_there
          ∙ ap (λ (t : TakeSide Route Item). Some (new_put t.who.queue p)) (sym f.is.requests_are);
      window = λ p port there.
          let e = port_at p port there in
          subst (IsNewQueue (done_aim p) config.limits.window config.geometry.channels) (sym (ap (λ (s : PortState). s.completions) e.is)) (deliveries.new p e.y e.y_there);
      completions = λ p c port w there w_there.
          let e = port_at p port there in
          let f = worker_at c w w_there in
          ap (λ xs. slice_get xs p) f.is.completions_are ∙ side_of done_aim config.limits.window config.geometry.channels config.limits.ports done_rows done_takes deliveries c p f.row e.y f.row_there e.y_there
          ∙ ap (λ (s : PortState). Some (new_put s.completions.who.queue c)) (sym e.is);
    }
