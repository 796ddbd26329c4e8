-- A port stays the one that it was, over the same queues.
use Rattle.std.proofs.Common.{◌≡◌, ℕ, zero, suc, ◌-◌, map, refl, sym, ap, ◌∙◌, subst}
use Rattle.ddr_world.specs.declared.item.Item.{Item}
use Rattle.ddr_world.specs.declared.item.Item.TheVariants.{End}
use Rattle.ddr_workers.specs.declared.requests.Route.{Route}
use Rattle.ddr_workers.specs.Port.{PortState, PortEnded, IsEndOfPort, IsHeldUp, IsSamePort, after_busy, after_ends, end_of}
use Rattle.ddr_workers.specs.Sides.{PutSide, PutId, after_full, after_push, changed_at}
use Rattle.ddr_workers.proofs.SentLemmas.{map-changed}

abbrev Side : Type 0
Side = PutSide Route Item

abbrev who_of : Side → PutId Route
who_of side = side.who

-- after a step on one of its sides
pub same_stepped : (s s' : PortState) (channel : ℕ) (change : Side → Side) → ((x : Side) → (change x).who ≡ x.who) → s'.id ≡ s.id → s'.core.port ≡ s.core.port
    → s'.requests ≡ changed_at channel change s.requests → s'.completions.who ≡ s.completions.who → IsSamePort s s'
same_stepped s s' channel change keeps id port sides completions =
    record { id = id; port = port; requests = ap (map who_of) sides ∙ map-changed who_of change keeps channel s.requests; completions = completions }

same_next : (s t u : PortState) → IsSamePort s t → IsSamePort t u → IsSamePort s u
same_next s t u before after = record {
  id = after.id ∙ before.id;
  port = after.port ∙ before.port;
  requests = after.requests ∙ before.requests;
  completions = after.completions ∙ before.completions;
}

same_ends : (n : ℕ) (s : PortState) → IsSamePort s (after_ends n s)
same_ends zero s = record { id = refl; port = refl; requests = refl; completions = refl }
same_ends (suc n) s =
    let t = after_ends n s in
    same_next s t (after_ends (suc n) s) (same_ends n s) (same_stepped t (after_ends (suc n) s) t.ended (λ (side : Side). after_push side (End side.who.source)) (λ x. refl) refl refl refl refl)

-- a port that was finished, and had its End pushed on some channels
pub same_held_up : (s t u : PortState) (channel : ℕ) → IsSamePort s t → IsHeldUp t u channel → IsSamePort s u
same_held_up s t u channel same held =
    let ended = after_ends (channel - t.ended) t in
    same_next s t u same (subst (IsSamePort t) (sym held.state)
    (same_next t ended (after_busy channel ended) (same_ends (channel - t.ended) t) (same_stepped ended (after_busy channel ended) channel after_full (λ x. refl) refl refl refl refl)))

pub same_finished : (s t : PortState) (e : PortEnded) (n : ℕ) → IsSamePort s t → e ≡ end_of (after_ends n t) → IsEndOfPort s e
same_finished s t e n same is =
    let whole = same_next s t (after_ends n t) same (same_ends n t) in
    subst (IsEndOfPort s) (sym is) (record { id = whole.id; port = whole.port; requests = whole.requests; completions = whole.completions })
