-- That each number is counted once, and stands in one class.
use Rattle.std.proofs.Common.{◌≡◌, ◌<◌, ◌≤◌, ℕ, ◌+◌, ◌-◌, ◌^◌, Bool, true, false, cond, List, [], ◌∷◌, length, fold, get_or, set, refl, sym, subst, ap, ◌∙◌, arith}
use Rattle.std.specs.Prelude.{count_by, min, sum_by}
use Rattle.std.proofs.lemmas.List.{length-set}
use Rattle.std.proofs.lemmas.List.Sums.{get_or-le-sum_by, sum_by-cons, sum_by-set}
use Rattle.ddr_measure.specs.Distributions.{class_of, no_distribution, with_value}
use Rattle.ddr_measure.specs.Groups.{distribution_of, holds, noted}
use Rattle.ddr_measure.specs.Spans.{clocks_of}
use Rattle.ddr_measure.specs.Sums.{AddsUp, AreHeld}
use Rattle.ddr_measure.specs.declared.distribution.Distribution.{Distribution}
use Rattle.ddr_measure.specs.declared.group.Group.{Group}
use Rattle.ddr_measure.specs.declared.span.Span.{Span}
use Rattle.ddr_measure.specs.declared.timed.Timed.{Timed}
use Rattle.ddr_measure.proofs.ClassLemmas.{scaled}

-- the classes have all numbers that were counted
pub record IsWhole (spread : Distribution) : Type 0 where
  pub classes : sum_by (λ n. n) spread.classes ≡ spread.count
  pub many : length spread.classes ≡ 496

pub none_whole : IsWhole no_distribution
none_whole = record { classes = refl; many = refl }

pub class_within : (value : ℕ) → value < 2 ^ 64 → class_of value < 496
class_within value held = omega (arith, scaled value held)

one_more : (number : ℕ) → number + 1 < 2 ^ 64 → min (number + 1) (2 ^ 64 - 1) ≡ number + 1
one_more number few = omega (arith, few)

-- one number more
value_whole : (value : ℕ) (spread : Distribution) → value < 2 ^ 64 → spread.count + 1 < 2 ^ 64 → IsWhole spread → IsWhole (with_value value spread) × ((with_value value spread).count ≡ spread.count + 1)
unfolding with_value
value_whole value spread held few whole =
    let k = class_of value in
    let within : k < length spread.classes = subst (λ n. k < n) (sym whole.many) (class_within value held) in
    let before = get_or spread.classes k 0 in
    let small : before ≤ spread.count = subst (λ n. before ≤ n) whole.classes (get_or-le-sum_by (λ n. n) spread.classes k 0 within) in
    let more : min (before + 1) (2 ^ 64 - 1) ≡ before + 1 = one_more before (omega (arith, small, few)) in
    let summed : sum_by (λ n. n) (set spread.classes k (before + 1)) + before ≡ sum_by (λ n. n) spread.classes + (before + 1) =
    sum_by-set (λ n. n) spread.classes k (before + 1) 0 within in
    let counted = one_more spread.count few in (
      record {
        classes = ap (λ n. sum_by (λ n. n) (set spread.classes k n)) more ∙ omega (arith, summed, whole.classes) ∙ sym counted;
        many = length-set spread.classes k _ ∙ whole.many;
      },
      counted,
    )

-- one request more, so many behind which so many may come
pub request_whole : (group : Group) (span : Span) (spread : Distribution) (request : Timed) → clocks_of span request < 2 ^ 64 → spread.count + 1 < 2 ^ 64 → IsWhole spread
    → IsWhole (noted group span spread request) × ((noted group span spread request).count ≡ spread.count + cond (holds group request) 1 0)
request_whole group span spread request held few whole = go (holds group request)
  where
    go : (b : Bool) → IsWhole (cond b (with_value (clocks_of span request) spread) spread) × ((cond b (with_value (clocks_of span request) spread) spread).count ≡ spread.count + cond b 1 0)
    go true = value_whole (clocks_of span request) spread held few whole
    go false = (whole, omega arith)

all_whole : (group : Group) (span : Span) (requests : List Timed) (spread : Distribution) → spread.count + length requests < 2 ^ 64 → AreHeld span requests → IsWhole spread
    → IsWhole (fold (noted group span) spread requests) × ((fold (noted group span) spread requests).count ≡ spread.count + count_by (holds group) requests)
all_whole group span [] spread few held whole = (whole, omega arith)
all_whole group span (request ∷ more) spread few held whole =
    let one = request_whole group span spread request held.0 (omega (arith, few)) whole in
    let less : cond (holds group request) 1 0 ≤ 1 = at_most_one (holds group request) in
    let rest = all_whole group span more (noted group span spread request) (omega (arith, few, one.1, less)) held.1 one.0 in
    (rest.0, rest.1 ∙ omega (arith, one.1, sum_by-cons (λ (r : Timed). cond (holds group r) 1 0) request more))
  where
    at_most_one : (b : Bool) → cond b 1 0 ≤ 1
    at_most_one true = omega arith
    at_most_one false = omega arith

pub adds_up : (group : Group) (span : Span) (requests : List Timed) → length requests < 2 ^ 64 → AreHeld span requests → AddsUp group span requests
adds_up group span requests few held =
    let all = all_whole group span requests no_distribution (omega (arith, few)) held none_whole in
    record { count = all.1 ∙ omega arith; classes = all.0.classes }

pub classes_many : (group : Group) (span : Span) (requests : List Timed) → length requests < 2 ^ 64 → AreHeld span requests → length (distribution_of group span requests).classes ≡ 496
classes_many group span requests few held = (all_whole group span requests no_distribution (omega (arith, few)) held none_whole).0.many
