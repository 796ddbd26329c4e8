-- What is said of a run from what is said of its parts, and of two systems.
use Rattle.std.proofs.Common.{arith, ◌≡◌, ℕ, Result, Ok, Err, IfOk, ◌∙◌, subst}
use Rattle.ddr_workers.specs.Port.{PortState, PortEnded, IsEndOfPort, IsSamePort}

-- what holds of a result's value holds of the part of another's that it is
pub held_of_part : {A B E F : Type 0} (r : Result B F) (s : Result A E) (part : B → A) (P : A → Type 0) → IfOk r (λ b. s ≡ Ok (part b)) → IfOk s P → IfOk r (λ b. P (part b))
held_of_part (Ok b) s part P same held = subst (λ x. IfOk x P) same held
held_of_part (Err e) s part P same held = tt

-- what follows from four facts of a result's value
pub of_four : {X E : Type 0} (r : Result X E) (A B C D P : X → Type 0) → IfOk r A → IfOk r B → IfOk r C → IfOk r D → ((x : X) → A x → B x → C x → D x → P x) → IfOk r P
of_four (Ok x) A B C D P a b c d follows = follows x a b c d
of_four (Err e) A B C D P a b c d follows = tt

-- the end of a port that stayed the one that it was
pub end_of_same : (s t : PortState) (e : PortEnded) → IsSamePort s t → IsEndOfPort t e → IsEndOfPort s e
end_of_same s t e same ended = record {
  id = ended.id ∙ same.id;
  port = ended.port ∙ same.port;
  requests = ended.requests ∙ same.requests;
  completions = ended.completions ∙ same.completions;
}

-- the end of another system is not to be one of this
pub of_another : (id : ℕ) → id ≡ 8 → id ≡ 7 → ⊥
of_another id other own = omega arith
