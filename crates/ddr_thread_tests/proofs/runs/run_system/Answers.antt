use Rattle.std.proofs.Common.{◌≡◌, ◌∷◌, [], IfOk, subst}
use Rattle.ddr_workers.specs.Closing.{AreOfOneOpen}
use Rattle.ddr_workers.specs.Port.{PortEnded, IsEndOfPort, IsSamePort}
use Rattle.ddr_workers.specs.Worker.{WorkerEnded, IsEndOf}
use Rattle.ddr_system_samples.proofs.OneOpen.{ends_of_two, first_id, second_id, first_work_id, second_work_id}
use Rattle.ddr_thread_tests.proofs.RunLemmas.{end_of_same, of_four}
use Rattle.ddr_thread_tests.proofs.runs.run_system.Goals as goal

pub returns-in-Ok : goal.returns-in-Ok
returns-in-Ok g c =
    let config = c.args.config.now in
    let id = c.args.id in
    let first = c.in_ok-first.first in
    let second = c.in_ok-first.second in
    let one = c.in_ok-first.first_worker in
    let two = c.in_ok-first.second_worker in
    let opened = c.in_ok-first.ensures in
    let begun = c.in-Ok.ports in
    let same : IsSamePort first begun.0 = subst (λ r. IfOk r (IsSamePort first)) c.in-Ok.ensures.first c.begin.ensures in
    let same_other : IsSamePort second begun.1 = subst (λ r. IfOk r (IsSamePort second)) c.in-Ok.ensures.second c.begin-2.ensures in
    let of_ends : (P : PortEnded × PortEnded × WorkerEnded × WorkerEnded → Type 0) → ((ends : PortEnded × PortEnded × WorkerEnded × WorkerEnded) → IsEndOfPort first ends.0 → IsEndOfPort second ends.1 → IsEndOf one ends.2 → IsEndOf two ends.3 → P ends) → IfOk c.run_parts.result P =
    λ P follows. of_four c.run_parts.result (λ ends. IsEndOfPort begun.0 ends.0) (λ ends. IsEndOfPort begun.1 ends.1) (λ ends. IsEndOf one ends.2) (λ ends. IsEndOf two ends.3) P
    c.run_parts.ensures.first c.run_parts.ensures.second c.run_parts.ensures.first_work c.run_parts.ensures.second_work
    (λ ends a b. follows ends (end_of_same first begun.0 ends.0 same a) (end_of_same second begun.1 ends.1 same_other b)) in
    record {
      one = of_ends (λ ends. AreOfOneOpen id (ends.0 ∷ ends.1 ∷ []) (ends.2 ∷ ends.3 ∷ []))
          (λ ends a b e f. c.ends_of_one_open.ensures config 0 id (first ∷ second ∷ []) (one ∷ two ∷ []) (ends.0 ∷ ends.1 ∷ []) (ends.2 ∷ ends.3 ∷ []) opened
          (ends_of_two config id first second one two opened ends.0 ends.1 ends.2 ends.3 a b e f));
      id = of_ends (λ ends. (ends.0.id ≡ id) × (ends.1.id ≡ id))
          (λ ends a b e f. (first_id config id first second one two opened ends.0 ends.1 ends.2 ends.3 a b e f, second_id config id first second one two opened ends.0 ends.1 ends.2 ends.3 a b e f));
      work_id = of_ends (λ ends. (ends.2.id ≡ id) × (ends.3.id ≡ id))
          (λ ends a b e f. (first_work_id config id first second one two opened ends.0 ends.1 ends.2 ends.3 a b e f, second_work_id config id first second one two opened ends.0 ends.1 ends.2 ends.3 a b e f));
    }
