-- The ends of ports and workers that one call of `open` made are at the two ends of the same queues.
use Rattle.std.proofs.Common.{◌≡◌, ℕ, List, length, map, Some, slice_get, sym, ap, ◌∙◌}
use Rattle.std.specs.Option.{option_map}
use Rattle.std.proofs.lemmas.List.{length-map}
use Rattle.std.proofs.lemmas.Option.{slice_get-map}
use Rattle.ddr_timing.specs.declared.config.Config.{Config}
use Rattle.ddr_workers.specs.declared.completions.Delivery.{Delivery}
use Rattle.ddr_workers.specs.declared.requests.Route.{Route}
use Rattle.ddr_workers.specs.Closing.{AreEndsOf, AreOfOneOpen}
use Rattle.ddr_workers.specs.Open.{IsOpenedAt}
use Rattle.ddr_workers.specs.Port.{PortState, PortEnded}
use Rattle.ddr_workers.specs.Sides.{PutSide, PutId, TakeId, put_id}
use Rattle.ddr_workers.specs.Worker.{WorkerState, WorkerEnded}

module _ {S T : Type 0} where
  abbrev pub who_of : PutSide S T → PutId S
  who_of side = side.who

  -- a side of which it is known whose it is
  same_side : (sides sides' : List (PutSide S T)) (k : ℕ) (side : PutSide S T) → map who_of sides' ≡ map who_of sides → slice_get sides k ≡ Some side → slice_get (map who_of sides') k ≡ Some side.who
  same_side sides sides' k side same there = ap (λ xs. slice_get xs k) same ∙ slice_get-map who_of sides k ∙ ap (option_map who_of) there

  pub same_length : (sides sides' : List (PutSide S T)) → map who_of sides' ≡ map who_of sides → length sides' ≡ length sides
  same_length sides sides' same = sym (length-map sides' who_of) ∙ ap length same ∙ length-map sides who_of

pub one_open : (config : Config) (first id : ℕ) (ports : List PortState) (workers : List WorkerState) (port_ends : List PortEnded) (worker_ends : List WorkerEnded)
    → IsOpenedAt config first id ports workers → AreEndsOf ports workers port_ends worker_ends → AreOfOneOpen id port_ends worker_ends
one_open config first id ports workers port_ends worker_ends opened ends = λ k m e w e_there w_there e_id w_id.
    let p = ends.port k e e_there in
    let c = ends.worker m w w_there in
    record {
      requests = same_side p.0.requests e.requests w.number _ p.2.requests (opened.requests e.port w.number p.0 c.0 p.1 c.1) ∙ ap (λ (t : TakeId Route). Some (put_id t e.port)) (sym c.2.requests);
      completions = same_side c.0.completions w.completions e.port _ c.2.completions (opened.completions e.port w.number p.0 c.0 p.1 c.1) ∙ ap (λ (t : TakeId Delivery). Some (put_id t w.number)) (sym p.2.completions);
      channels = ap (λ (t : TakeId Delivery). t.count) p.2.completions ∙ (opened.window e.port p.0 p.1).count ∙ sym (opened.sides e.port p.0 p.1) ∙ sym (same_length p.0.requests e.requests p.2.requests);
    }
