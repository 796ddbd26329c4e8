-- Requests that were admitted by a cycle.
use Rattle.std.proofs.Common.{◌≡◌, ℕ, ◌+◌, ◌≤◌, true, List, take, get_or, leb, All}
use Rattle.std.specs.List.{slice_get}
use Rattle.std.proofs.lemmas.Bool.{leb-true}
use Rattle.std.proofs.lemmas.List.Elements.{All-more}
use Rattle.std.proofs.lemmas.Option.{slice_get_within, get_or_from_slice_get}
use Rattle.ddr_hazards.specs.declared.waiting.Waiting.{Waiting}
use Rattle.ddr_arbiter.specs.Choice.{passes_at}
use Rattle.ddr_arbiter.proofs.LawLemmas.{passes_some}

pub admitted_more : (waiting : List Waiting) (place now : ℕ) → passes_at (λ w. leb w.admitted now) waiting place ≡ true →
    All (λ w. w.admitted ≤ now) (take place waiting) → All (λ w. w.admitted ≤ now) (take (place + 1) waiting)
admitted_more waiting place now passes before =
    let here = passes_some (λ w. leb w.admitted now) (slice_get waiting place) passes in
    let same = get_or_from_slice_get waiting place here.0 here.0 here.1 in
    let last : (get_or waiting place here.0).admitted ≤ now = rw same (leb-true here.0.admitted now here.2) in
    All-more (λ w. w.admitted ≤ now) waiting place here.0 (slice_get_within waiting place here.0 here.1) before last
