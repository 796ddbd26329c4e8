-- The numbers of a distribution together.
use Rattle.std.specs.Prelude.{◌≡◌, ◌<◌, ◌^◌, List, count_by, sum_by}
use Rattle.std.specs.List.{AllByRecursion}
use Rattle.ddr_measure.specs.Groups.{distribution_of, holds}
use Rattle.ddr_measure.specs.Spans.{clocks_of}
use Rattle.ddr_measure.specs.declared.group.Group.{Group}
use Rattle.ddr_measure.specs.declared.span.Span.{Span}
use Rattle.ddr_measure.specs.declared.timed.Timed.{Timed}

-- a `u64` holds the clocks of each
abbrev pub AreHeld : Span → List Timed → Type 0
AreHeld span requests = AllByRecursion (λ request. clocks_of span request < 2 ^ 64) requests

-- each one of the group is counted once, and stands in one class
pub record AddsUp (group : Group) (span : Span) (requests : List Timed) : Type 0 where
  pub count : (distribution_of group span requests).count ≡ count_by (holds group) requests
  pub classes : sum_by (λ n. n) (distribution_of group span requests).classes ≡ (distribution_of group span requests).count
