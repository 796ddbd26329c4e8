-- What a percentile's bound says of the requests.
use Rattle.std.specs.Prelude.{◌≡◌, ℕ, ◌-◌, ◌*◌, ◌<◌, ◌≤◌, Bool, ◌&&◌, nat_le, nat_lt, List, count_by}
use Rattle.ddr_measure.specs.Groups.{holds}
use Rattle.ddr_measure.specs.Spans.{clocks_of}
use Rattle.ddr_measure.specs.declared.group.Group.{Group}
use Rattle.ddr_measure.specs.declared.span.Span.{Span}
use Rattle.ddr_measure.specs.declared.timed.Timed.{Timed}

-- how many of a group took so many clocks
abbrev pub took : Group → Span → (ℕ → Bool) → List Timed → ℕ
took group span test requests = count_by (λ request. holds group request && test (clocks_of span request)) requests

-- So many in a thousand of a group don't pass the bound, and fewer than so many stay below `first`, so the true percentile is one of the
-- numbers from there to the bound; the bound is above it by an eighth at most, and below 16 it is the percentile itself.
pub record IsPercentile (thousandths : ℕ) (group : Group) (span : Span) (requests : List Timed) (bound : ℕ) : Type 0 where
  pub enough : thousandths * count_by (holds group) requests ≤ 1000 * took group span (λ clocks. nat_le clocks bound) requests
  pub first : ℕ
  pub fewer : 1000 * took group span (λ clocks. nat_lt clocks first) requests < thousandths * count_by (holds group) requests
  pub below : first ≤ bound
  pub near : 8 * (bound - first) ≤ first
  pub exact : bound < 16 → bound ≡ first
