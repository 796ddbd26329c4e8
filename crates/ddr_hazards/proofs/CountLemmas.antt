-- Lemmas on how many requests of each kind are pending.
use Rattle.std.proofs.Common.{◌≡◌, ℕ, ◌+◌, List, [], ◌∷◌, ◌++◌, length, Some, refl, sym, ap, ◌∙◌, arith}
use Rattle.std.specs.List.{remove, slice_get}
use Rattle.std.proofs.lemmas.List.Sums.{sum_by_push, sum_by-cons, sum_by-remove}
use Rattle.std.proofs.lemmas.Option.{slice_get_within, get_or_from_slice_get}
use Rattle.ddr_address_map.specs.declared.request.Kind.{Kind}
use Rattle.ddr_address_map.specs.declared.request.Kind.TheVariants.{Read, Write}
use Rattle.ddr_hazards.specs.declared.waiting.Waiting.{Waiting}
use Rattle.ddr_hazards.specs.Counts.{one_of}
use Rattle.ddr_hazards.specs.PendingList.{pending_count}

-- what a request adds to the count of a kind
abbrev share : Kind → Waiting → ℕ
share kind w = one_of kind w.request.echo.kind

pub pending_count-push : (kind : Kind) (waiting : List Waiting) (w : Waiting) →
    pending_count kind (waiting ++ w ∷ []) ≡ pending_count kind waiting + one_of kind w.request.echo.kind
pending_count-push kind waiting w = sum_by_push (share kind) waiting w

pub pending_count-remove : (kind : Kind) (waiting : List Waiting) (place : ℕ) (w : Waiting) → slice_get waiting place ≡ Some w →
    pending_count kind (remove waiting place) + one_of kind w.request.echo.kind ≡ pending_count kind waiting
pending_count-remove kind waiting place w there =
    sym (ap (λ v. pending_count kind (remove waiting place) + share kind v) (get_or_from_slice_get waiting place w w there))
    ∙ sum_by-remove (share kind) waiting place w (slice_get_within waiting place w there)

pub one_of-same : (kind : Kind) → one_of kind kind ≡ 1
one_of-same Read = refl
one_of-same Write = refl

one_kind : (w : Waiting) → share Read w + share Write w ≡ 1
one_kind w = elim w.request.echo.kind as (λ kind. one_of Read kind + one_of Write kind ≡ 1) [ Read ↦ refl | Write ↦ refl ]

-- each request is of one kind
pub both_kinds : (waiting : List Waiting) → pending_count Read waiting + pending_count Write waiting ≡ length waiting
both_kinds [] = refl
both_kinds (w ∷ ws) =
    omega (arith, sum_by-cons (share Read) w ws, sum_by-cons (share Write) w ws, one_kind w, both_kinds ws)
