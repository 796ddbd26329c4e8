-- Ends that no refusal applies to, put in order: they are those of all ports and workers of one call of `open`.
use Rattle.std.proofs.Common.{◌≡◌, ℕ, zero, suc, ◌<◌, Bool, true, false, not, eqb, ◌||◌, List, length, map, Some, slice_get, refl, sym, ◌∙◌, arith}
use Rattle.std.specs.List.{list_any}
use Rattle.std.specs.List.Sorted.{IsNonDecreasingBy, IsPermutation}
use Rattle.std.proofs.lemmas.Bool.{eqb-true}
use Rattle.std.proofs.lemmas.List.{length-map}
use Rattle.std.proofs.lemmas.Option.{slice_get_within}
use Rattle.ddr_workers.specs.Closing.{AreOfOneOpen, AreOpposite, channel_of, has_each, has_twice, is_foreign, is_missing, port_of}
use Rattle.ddr_workers.specs.Joined.{AreReady}
use Rattle.ddr_workers.specs.Port.{PortEnded}
use Rattle.ddr_workers.specs.Worker.{WorkerEnded}
use Rattle.ddr_workers.proofs.ChangedLemmas.{some_there}
use Rattle.ddr_workers.proofs.OrderLemmas.{AreInPlace, comes_from, in_order, none_passes, or_left, or_right}

not_false : (b : Bool) → not b ≡ false → b ≡ true
not_false true e = refl
not_false false e = cc

some_of : (n : ℕ) → eqb n 0 ≡ false → 0 < n
some_of zero e = cc
some_of (suc n) e = omega arith

module _ (id : ℕ) (ports : List PortEnded) (workers : List WorkerEnded) (own : is_foreign id ports workers ≡ false) (whole : is_missing ports workers ≡ false) (one : AreOfOneOpen id ports workers) where
  behind_ports : (list_any (λ w. not (eqb w.id id)) workers || (has_twice port_of ports || has_twice channel_of workers)) ≡ false
  behind_ports = or_right (list_any (λ e. not (eqb e.id id)) ports) _ own

  port_id : (k : ℕ) (e : PortEnded) → slice_get ports k ≡ Some e → e.id ≡ id
  port_id k e there = eqb-true e.id id (not_false (eqb e.id id) (none_passes (λ d. not (eqb d.id id)) ports k e (or_left (list_any (λ d. not (eqb d.id id)) ports) _ own) there))

  worker_id : (k : ℕ) (w : WorkerEnded) → slice_get workers k ≡ Some w → w.id ≡ id
  worker_id k w there = eqb-true w.id id (not_false (eqb w.id id) (none_passes (λ d. not (eqb d.id id)) workers k w (or_left (list_any (λ d. not (eqb d.id id)) workers) _ behind_ports) there))

  behind_ids : (has_twice port_of ports || has_twice channel_of workers) ≡ false
  behind_ids = or_right (list_any (λ w. not (eqb w.id id)) workers) _ behind_ports

  ports_once : has_twice port_of ports ≡ false
  ports_once = or_left (has_twice port_of ports) _ behind_ids

  channels_once : has_twice channel_of workers ≡ false
  channels_once = or_right (has_twice port_of ports) (has_twice channel_of workers) behind_ids

  behind_none : (eqb (length workers) 0 || (list_any (λ e. not (has_each channel_of (length e.requests) workers)) ports || list_any (λ w. not (has_each port_of (length w.completions) ports)) workers)) ≡ false
  behind_none = or_right (eqb (length ports) 0) _ whole

  some_port : 0 < length ports
  some_port = some_of (length ports) (or_left (eqb (length ports) 0) _ whole)

  some_worker : 0 < length workers
  some_worker = some_of (length workers) (or_left (eqb (length workers) 0) _ behind_none)

  none_lacks : (list_any (λ e. not (has_each channel_of (length e.requests) workers)) ports || list_any (λ w. not (has_each port_of (length w.completions) ports)) workers) ≡ false
  none_lacks = or_right (eqb (length workers) 0) _ behind_none

  each_channel : (k : ℕ) (e : PortEnded) → slice_get ports k ≡ Some e → has_each channel_of (length e.requests) workers ≡ true
  each_channel k e there =
      not_false (has_each channel_of (length e.requests) workers)
      (none_passes (λ d. not (has_each channel_of (length d.requests) workers)) ports k e (or_left (list_any (λ d. not (has_each channel_of (length d.requests) workers)) ports) _ none_lacks) there)

  each_port : (k : ℕ) (w : WorkerEnded) → slice_get workers k ≡ Some w → has_each port_of (length w.completions) ports ≡ true
  each_port k w there =
      not_false (has_each port_of (length w.completions) ports)
      (none_passes (λ d. not (has_each port_of (length d.completions) ports)) workers k w
      (or_right (list_any (λ d. not (has_each channel_of (length d.requests) workers)) ports) (list_any (λ d. not (has_each port_of (length d.completions) ports)) workers) none_lacks) there)

  opposite : (k m : ℕ) (e : PortEnded) (w : WorkerEnded) → slice_get ports k ≡ Some e → slice_get workers m ≡ Some w → AreOpposite e w
  opposite k m e w there w_there = one k m e w there w_there (port_id k e there) (worker_id m w w_there)

  channel_below : (k m : ℕ) (e : PortEnded) (w : WorkerEnded) → slice_get ports k ≡ Some e → slice_get workers m ≡ Some w → w.number < length e.requests
  channel_below k m e w there w_there = omega (arith, slice_get_within (map (λ s. s.who) e.requests) w.number _ (opposite k m e w there w_there).requests, length-map e.requests (λ s. s.who))

  port_below : (k m : ℕ) (e : PortEnded) (w : WorkerEnded) → slice_get ports k ≡ Some e → slice_get workers m ≡ Some w → e.port < length w.completions
  port_below k m e w there w_there = omega (arith, slice_get_within (map (λ s. s.who) w.completions) e.port _ (opposite k m e w there w_there).completions, length-map w.completions (λ s. s.who))

  module _ (ports' : List PortEnded) (workers' : List WorkerEnded) (same_ports : IsPermutation ports ports') (same_workers : IsPermutation workers workers')
      (ports_rise : IsNonDecreasingBy port_of ports') (workers_rise : IsNonDecreasingBy channel_of workers') where
    ports_placed : (m : ℕ) (w : WorkerEnded) → slice_get workers m ≡ Some w → AreInPlace port_of 0 (length w.completions) ports'
    ports_placed m w w_there = in_order port_of (length w.completions) ports ports' same_ports ports_rise ports_once (each_port m w w_there) (λ k e there. port_below k m e w there w_there)

    workers_placed : (k : ℕ) (e : PortEnded) → slice_get ports k ≡ Some e → AreInPlace channel_of 0 (length e.requests) workers'
    workers_placed k e there = in_order channel_of (length e.requests) workers workers' same_workers workers_rise channels_once (each_channel k e there) (λ m w w_there. channel_below k m e w there w_there)

    pub are_ready : AreReady ports' workers'
    are_ready =
        let a_port = some_there ports 0 some_port in
        let a_worker = some_there workers 0 some_worker in
        let from_ports = comes_from port_of ports ports' same_ports in
        let from_workers = comes_from channel_of workers workers' same_workers in
        record {
          port = λ p e there. (ports_placed 0 a_worker.0 a_worker.1).place p e there ∙ omega arith;
          worker = λ c w there. (workers_placed 0 a_port.0 a_port.1).place c w there ∙ omega arith;
          channels = λ p e there. let f = from_ports p e there in sym (workers_placed f.0 e f.1).many;
          ports_are = λ c w there. let f = from_workers c w there in sym (ports_placed f.0 w f.1).many;
          windows = λ p e there.
              let f = from_ports p e there in
              (opposite f.0 0 e a_worker.0 f.1 a_worker.1).channels ∙ sym (workers_placed f.0 e f.1).many;
          opposite = λ p c e w there w_there.
              let f = from_ports p e there in
              let h = from_workers c w w_there in
              opposite f.0 h.0 e w f.1 h.1;
        }
