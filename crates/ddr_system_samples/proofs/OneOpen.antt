-- The ends of two ports and two workers that one call of `open` made.
use Rattle.std.proofs.Common.{true, false, ◌≡◌, ◌⊎◌, inl, inr, ℕ, zero, suc, List, [], ◌∷◌, slice_get, Some, sym, refl, ap, ◌∙◌, subst}
use Rattle.std.proofs.lemmas.Bool.{false≢true}
use Rattle.std.proofs.lemmas.Option.{cond_some}
use Rattle.std.specs.List.{AllByRecursion}
use Rattle.ddr_timing.specs.declared.config.Config.{Config}
use Rattle.ddr_workers.specs.Closing.{AreEndsOf, AreOfOneOpen, AreOpposite}
use Rattle.ddr_workers.specs.Open.{IsOpened}
use Rattle.ddr_workers.specs.Port.{PortState, PortEnded, IsEndOfPort}
use Rattle.ddr_workers.specs.Worker.{WorkerState, WorkerEnded, IsEndOf}

module _ (config : Config) (id : ℕ) (first second : PortState) (one two : WorkerState) (opened : IsOpened config id (first ∷ second ∷ []) (one ∷ two ∷ []))
    (a b : PortEnded) (c d : WorkerEnded) (of_first : IsEndOfPort first a) (of_second : IsEndOfPort second b) (of_one : IsEndOf one c) (of_two : IsEndOf two d) where
  port_number : a.port ≡ 0
  port_number = of_first.port ∙ ap (λ (s : PortState). s.core.port) (opened.port 0 first refl)

  other_port_number : b.port ≡ 1
  other_port_number = of_second.port ∙ ap (λ (s : PortState). s.core.port) (opened.port 1 second refl)

  channel_number : c.number ≡ 0
  channel_number = of_one.number ∙ (opened.worker 0 one refl).number_is

  other_channel_number : d.number ≡ 1
  other_channel_number = of_two.number ∙ (opened.worker 1 two refl).number_is

  IsPortOfThese : PortEnded → Type 0
  IsPortOfThese e = (s : PortState) × (slice_get (first ∷ second ∷ []) e.port ≡ Some s) × IsEndOfPort s e

  IsWorkerOfThese : WorkerEnded → Type 0
  IsWorkerOfThese w = (s : WorkerState) × (slice_get (one ∷ two ∷ []) w.number ≡ Some s) × IsEndOf s w

  port_is : (k : ℕ) (e : PortEnded) → slice_get (a ∷ b ∷ []) k ≡ Some e → (s : PortState) × (slice_get (first ∷ second ∷ []) e.port ≡ Some s) × IsEndOfPort s e
  port_is zero e is =
      let same = (cond_some true a e is).1 in
      let at : slice_get (first ∷ second ∷ []) a.port ≡ Some first = ap (slice_get (first ∷ second ∷ [])) port_number in
      subst (λ (x : PortEnded). (s : PortState) × (slice_get (first ∷ second ∷ []) x.port ≡ Some s) × IsEndOfPort s x) same (first, at, of_first)
  port_is (suc zero) e is =
      let same = (cond_some true b e is).1 in
      let at : slice_get (first ∷ second ∷ []) b.port ≡ Some second = ap (slice_get (first ∷ second ∷ [])) other_port_number in
      subst (λ (x : PortEnded). (s : PortState) × (slice_get (first ∷ second ∷ []) x.port ≡ Some s) × IsEndOfPort s x) same (second, at, of_second)
  port_is (suc (suc k)) e is = absurd (false≢true (cond_some false e e is).0)

  worker_is : (k : ℕ) (w : WorkerEnded) → slice_get (c ∷ d ∷ []) k ≡ Some w → (s : WorkerState) × (slice_get (one ∷ two ∷ []) w.number ≡ Some s) × IsEndOf s w
  worker_is zero w is =
      let same = (cond_some true c w is).1 in
      let at : slice_get (one ∷ two ∷ []) c.number ≡ Some one = ap (slice_get (one ∷ two ∷ [])) channel_number in
      subst (λ (x : WorkerEnded). (s : WorkerState) × (slice_get (one ∷ two ∷ []) x.number ≡ Some s) × IsEndOf s x) same (one, at, of_one)
  worker_is (suc zero) w is =
      let same = (cond_some true d w is).1 in
      let at : slice_get (one ∷ two ∷ []) d.number ≡ Some two = ap (slice_get (one ∷ two ∷ [])) other_channel_number in
      subst (λ (x : WorkerEnded). (s : WorkerState) × (slice_get (one ∷ two ∷ []) x.number ≡ Some s) × IsEndOf s x) same (two, at, of_two)
  worker_is (suc (suc k)) w is = absurd (false≢true (cond_some false w w is).0)

  pub ends_of_two : AreEndsOf (first ∷ second ∷ []) (one ∷ two ∷ []) (a ∷ b ∷ []) (c ∷ d ∷ [])
  ends_of_two = record { port = port_is; worker = worker_is }

  pub first_id : a.id ≡ id
  first_id = of_first.id ∙ ap (λ (s : PortState). s.id) (opened.port 0 first refl)

  pub second_id : b.id ≡ id
  second_id = of_second.id ∙ ap (λ (s : PortState). s.id) (opened.port 1 second refl)

  pub first_work_id : c.id ≡ id
  first_work_id = of_one.id ∙ (opened.worker 0 one refl).id_is

  pub second_work_id : d.id ≡ id
  second_work_id = of_two.id ∙ (opened.worker 1 two refl).id_is

-- Ends that are among those of one call, or carry another id
module _ (id : ℕ) (a b : PortEnded) (c d : WorkerEnded) (one : AreOfOneOpen id (a ∷ b ∷ []) (c ∷ d ∷ [])) where
  both : (e : PortEnded) (w : WorkerEnded) → (e ≡ a) ⊎ (e ≡ b) → (w ≡ c) ⊎ (w ≡ d) → e.id ≡ id → w.id ≡ id → AreOpposite e w
  both e w (inl p) (inl q) = one 0 0 e w (ap Some (sym p)) (ap Some (sym q))
  both e w (inl p) (inr q) = one 0 1 e w (ap Some (sym p)) (ap Some (sym q))
  both e w (inr p) (inl q) = one 1 0 e w (ap Some (sym p)) (ap Some (sym q))
  both e w (inr p) (inr q) = one 1 1 e w (ap Some (sym p)) (ap Some (sym q))

  abbrev pub IsOwnPort : PortEnded → Type 0
  IsOwnPort e = e.id ≡ id → (e ≡ a) ⊎ (e ≡ b)

  abbrev pub IsOwnWorker : WorkerEnded → Type 0
  IsOwnWorker w = w.id ≡ id → (w ≡ c) ⊎ (w ≡ d)

  at : {X : Type 0} (P : X → Type 0) (xs : List X) (k : ℕ) (x : X) → AllByRecursion P xs → slice_get xs k ≡ Some x → P x
  at P [] k x all is = absurd (false≢true (cond_some false x x is).0)
  at P (y ∷ ys) zero x all is = subst P (cond_some true y x is).1 all.0
  at P (y ∷ ys) (suc k) x all is = at P ys k x all.1 is

  pub among : (ports : List PortEnded) (workers : List WorkerEnded) (es : List PortEnded) (ws : List WorkerEnded) → ports ≡ es → workers ≡ ws
      → AllByRecursion IsOwnPort es → AllByRecursion IsOwnWorker ws → AreOfOneOpen id ports workers
  among ports workers es ws ports_are workers_are own_ports own_workers = λ k m e w is_port is_worker own other.
      both e w (at IsOwnPort es k e own_ports (subst (λ l. slice_get l k ≡ Some e) ports_are is_port) own)
      (at IsOwnWorker ws m w own_workers (subst (λ l. slice_get l m ≡ Some w) workers_are is_worker) other) own other
