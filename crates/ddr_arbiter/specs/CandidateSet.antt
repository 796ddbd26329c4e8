-- Which requests are candidates, told by a kind, a number of places and the marks of the forced ranks.
use Rattle.std.specs.Prelude.{ℕ, Bool, false, ◌&&◌, not, ◌==◌, nat_lt, if◌then◌else◌, List, filter, slice_get, slice_index_or, Option, Some, None}
use Rattle.std.specs.List.{range_with_len}
use Rattle.std.specs.Option.{option_and_then}
use Rattle.ddr_address_map.specs.declared.request.Kind.{Kind}
use Rattle.ddr_address_map.specs.declared.request.Kind.TheVariants.{Read, Write}
use Rattle.ddr_hazards.specs.declared.waiting.Waiting.{Waiting}
use Rattle.ddr_hazards.specs.Hazards.{is_blocked}
use Rattle.ddr_hazards.specs.PendingList.{is_same_kind}
use Rattle.ddr_arbiter.specs.declared.candidates.CandidateSet.{CandidateSet}
use Rattle.ddr_arbiter.specs.Choice.{has_age, passes_at}

abbrev pub other_kind : Kind → Kind
other_kind Read = Write
other_kind Write = Read

-- the kind of the oldest request, where it has reached the cap
abbrev pub kind_at_age : ℕ → ℕ → Waiting → Option Kind
kind_at_age now cap w = if has_age now cap w then Some w.request.echo.kind else None

abbrev pub capped_kind : ℕ → ℕ → List Waiting → Option Kind
capped_kind now cap waiting = option_and_then (kind_at_age now cap) (slice_get waiting 0)

abbrev pub is_of_unmarked_rank : List Bool → List Waiting → ℕ → Bool
is_of_unmarked_rank marks waiting place = passes_at (λ w. not (slice_index_or marks w.request.place.rank false)) waiting place

abbrev pub is_free_of_marks : List Bool → List Waiting → ℕ → Bool
is_free_of_marks marks waiting place = not (is_blocked waiting place) && is_of_unmarked_rank marks waiting place

abbrev pub is_of_kind : Kind → List Waiting → ℕ → Bool
is_of_kind kind waiting place = passes_at (λ w. is_same_kind kind w.request.echo.kind) waiting place

abbrev pub is_candidate : CandidateSet → List Waiting → ℕ → Bool
is_candidate c waiting place = is_of_kind c.kind waiting place && is_free_of_marks c.forced waiting place

abbrev pub places_of : CandidateSet → List Waiting → List ℕ
places_of c waiting = filter (is_candidate c waiting) (range_with_len 0 c.count)

-- the request at the place is a candidate that wants the row
abbrev pub wants : CandidateSet → ℕ → List Waiting → ℕ → Bool
wants c row waiting place = passes_at (λ w. w.request.place.row == row) waiting place && (nat_lt place c.count && is_candidate c waiting place)
