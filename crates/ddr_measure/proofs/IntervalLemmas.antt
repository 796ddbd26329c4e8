-- Intervals as a request is noted in them.
use Rattle.std.proofs.Common.{◌≡◌, ℕ, ◌/◌, ◌==◌, ◌<◌, ◌-◌, ◌≢◌, Bool, true, false, if◌then◌else◌, List, [], ◌∷◌, ◌++◌, length, take, get_or, ◌+◌, refl, sym, ap, arith, ◌∙◌}
use Rattle.std.specs.Prelude.{filter, flat_map, fold, slice_index_or}
use Rattle.std.proofs.lemmas.Bool.Decides.{nat_tests}
use Rattle.std.proofs.lemmas.Grind.{flat_map-append}
use Rattle.std.proofs.lemmas.List.{append-nil, get_or-set_other, get_or-set_same, length-set, take_more}
use Rattle.std.proofs.lemmas.List.Elements.{filter-append}
use Rattle.std.proofs.lemmas.List.Sums.{fold-append}
use Rattle.ddr_statistics.specs.Noted.{raised}
use Rattle.ddr_measure.specs.Intervals.{Interval, burst_of, interval_at}
use Rattle.ddr_measure.specs.Noting.{AreIntervals, no_interval, with_clock, with_clocks, with_request}
use Rattle.ddr_measure.specs.declared.timed.Timed.{Timed}

-- each interval has these requests and so many busy clocks
abbrev AreSo : (ℕ → List Timed) → (ℕ → ℕ) → List Interval → Type 0
AreSo requests busy intervals = (at : ℕ) → at < length intervals → slice_index_or intervals at no_interval ≡ record { requests = requests at; busy = busy at }

request_step : (requests : ℕ → List Timed) (busy : ℕ → ℕ) (k : ℕ) (r : Timed) (intervals : List Interval) → AreSo requests busy intervals
    → AreSo (λ at. if k == at then requests at ++ r ∷ [] else requests at) busy (with_request k r intervals)
request_step requests busy k r intervals so at within = go (k == at) refl where
  here : at < length intervals
  here = rw (sym (length-set intervals k (record (slice_index_or intervals k no_interval) { requests = (slice_index_or intervals k no_interval).requests ++ r ∷ [] }))) within

  go : (b : Bool) → (k == at) ≡ b → slice_index_or (with_request k r intervals) at no_interval ≡ record { requests = if b then requests at ++ r ∷ [] else requests at; busy = busy at }
  go true e =
      let same : k ≡ at = grind (arith, nat_tests, e) in
      rw same (get_or-set_same intervals at _ no_interval here ∙ ap (λ (old : Interval). record old { requests = old.requests ++ r ∷ [] }) (so at here))
  go false e =
      let other : at ≢ k = grind (arith, nat_tests, e) in
      get_or-set_other intervals k at _ no_interval other ∙ so at here

clock_step : (every : ℕ) (requests : ℕ → List Timed) (busy : ℕ → ℕ) (clock : ℕ) (intervals : List Interval) → AreSo requests busy intervals
    → AreSo requests (λ at. if clock / every == at then raised 1 (busy at) else busy at) (with_clock every clock intervals)
clock_step every requests busy clock intervals so at within = go (clock / every == at) refl where
  here : at < length intervals
  here = rw (sym (length-set intervals (clock / every) (record (slice_index_or intervals (clock / every) no_interval) { busy = raised 1 (slice_index_or intervals (clock / every) no_interval).busy }))) within

  go : (b : Bool) → (clock / every == at) ≡ b → slice_index_or (with_clock every clock intervals) at no_interval ≡ record { requests = requests at; busy = if b then raised 1 (busy at) else busy at }
  go true e =
      let same : clock / every ≡ at = grind (arith, nat_tests, e) in
      rw same (get_or-set_same intervals at _ no_interval here ∙ ap (λ (old : Interval). record old { busy = raised 1 old.busy }) (so at here))
  go false e =
      let other : at ≢ clock / every = grind (arith, nat_tests, e) in
      get_or-set_other intervals (clock / every) at _ no_interval other ∙ so at here

length_clocks : (every : ℕ) (clocks : List ℕ) (intervals : List Interval) → length (with_clocks every clocks intervals) ≡ length intervals
length_clocks every [] intervals = refl
length_clocks every (clock ∷ more) intervals = length_clocks every more (with_clock every clock intervals) ∙ length-set intervals (clock / every) _

length_noted : (every : ℕ) (r : Timed) (intervals : List Interval) → length (with_clocks every (burst_of r) (with_request (r.done / every) r intervals)) ≡ length intervals
length_noted every r intervals = length_clocks every (burst_of r) (with_request (r.done / every) r intervals) ∙ length-set intervals (r.done / every) _

-- a request more
abbrev busy_step : ℕ → ℕ → ℕ → ℕ → ℕ
busy_step every at busy clock = if clock / every == at then raised 1 busy else busy

interval_push : (every : ℕ) (seen : List Timed) (r : Timed) (at : ℕ)
    → record { requests = if r.done / every == at then (interval_at every seen at).requests ++ r ∷ [] else (interval_at every seen at).requests; busy = fold (busy_step every at) (interval_at every seen at).busy (burst_of r) }
    ≡ interval_at every (seen ++ r ∷ []) at
interval_push every seen r at = λ i. record { requests = requests i; busy = busy i } where
  test : Timed → Bool
  test request = request.done / every == at

  one : (b : Bool) → test r ≡ b → (if b then filter test seen ++ r ∷ [] else filter test seen) ≡ filter test seen ++ (if b then r ∷ [] else [])
  one true e = refl
  one false e = sym (append-nil (filter test seen))

  requests : (if test r then filter test seen ++ r ∷ [] else filter test seen) ≡ filter test (seen ++ r ∷ [])
  requests = one (test r) refl ∙ sym (filter-append test seen (r ∷ []))

  busy : fold (busy_step every at) (fold (busy_step every at) 0 (flat_map burst_of seen)) (burst_of r) ≡ fold (busy_step every at) 0 (flat_map burst_of (seen ++ r ∷ []))
  busy = sym (ap (λ clocks. fold (busy_step every at) 0 clocks) (flat_map-append burst_of seen (r ∷ [])) ∙ fold-append (busy_step every at) 0 (flat_map burst_of seen) (burst_of r))

noted_step : (every : ℕ) (seen : List Timed) (r : Timed) (intervals : List Interval) → AreIntervals every seen intervals
    → AreIntervals every (seen ++ r ∷ []) (with_clocks every (burst_of r) (with_request (r.done / every) r intervals))
noted_step every seen r intervals are at within =
    let base : AreSo (λ k. (interval_at every seen k).requests) (λ k. (interval_at every seen k).busy) intervals = are in
    let zero = request_step _ _ (r.done / every) r intervals base in
    let one = clock_step every _ _ (r.done - 4) _ zero in
    let two = clock_step every _ _ (r.done - 3) _ one in
    let three = clock_step every _ _ (r.done - 2) _ two in
    let four = clock_step every _ _ (r.done - 1) _ three in
    four at within ∙ interval_push every seen r at

-- the next request of a list is noted
pub noted_next : (every : ℕ) (requests : List Timed) (i : ℕ) (d : Timed) (old mid new : List Interval) → i < length requests → AreIntervals every (take i requests) old
    → mid ≡ with_request ((get_or requests i d).done / every) (get_or requests i d) old → new ≡ with_clocks every (burst_of (get_or requests i d)) mid
    → (length new ≡ length old) × AreIntervals every (take (i + 1) requests) new
noted_next every requests i d old mid new within are one all =
    let e = all ∙ ap (λ (xs : List Interval). with_clocks every (burst_of (get_or requests i d)) xs) one in (
      ap (λ (xs : List Interval). length xs) e ∙ length_noted every (get_or requests i d) old,
      rw (e, take_more requests i d within) (noted_step every (take i requests) (get_or requests i d) old are),
    )
