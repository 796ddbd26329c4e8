-- The ends of all ports and workers that one call of `open` made, in their order: none is foreign and none is missing.
use Rattle.std.proofs.Common.{◌≡◌, ℕ, zero, suc, ◌+◌, ◌<◌, ◌≤◌, Bool, true, false, not, eqb, eq-eqb, ◌||◌, ◌&&◌, List, [], ◌∷◌, length, Some, slice_get, refl, sym, ap, ap₂, ◌∙◌, subst, arith}
use Rattle.std.specs.List.{list_all, list_any, range_with_len}
use Rattle.std.proofs.lemmas.Bool.{ne_eqb}
use Rattle.std.proofs.lemmas.List.Folds.{list_any_at, list_any_none}
use Rattle.std.proofs.lemmas.Option.{get_or_from_slice_get, slice_get_within}
use Rattle.ddr_timing.specs.declared.config.Config.{Config}
use Rattle.ddr_workers.specs.Closing.{AreAllEnds, AreComplete, AreEndsOf, AreMatched, channel_of, has_each, has_number, has_twice, is_foreign, is_missing, port_of}
use Rattle.ddr_workers.specs.Open.{IsOpenedAt}
use Rattle.ddr_workers.specs.Port.{PortState, PortEnded, IsEndOfPort}
use Rattle.ddr_workers.specs.Worker.{WorkerState, WorkerEnded, IsEndOf}
use Rattle.ddr_workers.proofs.ChangedLemmas.{some_there}
use Rattle.ddr_workers.proofs.OneOpen.{one_open, same_length}
use Rattle.ddr_workers.proofs.OpenLemmas.{all_from, from_none}
use Rattle.ddr_workers.proofs.OrderLemmas.{AreInPlace}

module _ {X Y : Type 0} (R : X → Y → Type 0) where
  pub matched_length : (xs : List X) (ys : List Y) → AreMatched R xs ys → length xs ≡ length ys
  matched_length [] [] m = refl
  matched_length (x ∷ xs) (y ∷ ys) m = ap suc (matched_length xs ys m.1)
  matched_length [] (y ∷ ys) m = absurd m
  matched_length (x ∷ xs) [] m = absurd m

  pub matched_at : (xs : List X) (ys : List Y) → AreMatched R xs ys → (k : ℕ) (y : Y) → slice_get ys k ≡ Some y → (x : X) × (slice_get xs k ≡ Some x) × R x y
  matched_at [] [] m k y there = cc
  matched_at (x ∷ xs) (z ∷ ys) m zero y there = let same : z ≡ y = cc in (x, refl, subst (R x) same m.0)
  matched_at (x ∷ xs) (z ∷ ys) m (suc k) y there = matched_at xs ys m.1 k y there
  matched_at [] (z ∷ ys) m k y there = absurd m
  matched_at (x ∷ xs) [] m k y there = absurd m

neither : (a b : Bool) → a ≡ false → b ≡ false → (a || b) ≡ false
neither a b e f = ap₂ ◌||◌ e f

none_of : {X : Type 0} (p : X → Bool) (xs : List X) → ((k : ℕ) (x : X) → slice_get xs k ≡ Some x → p x ≡ false) → list_any p xs ≡ false
none_of p xs each = list_any_none p xs (all_from (λ x. p x ≡ false) xs each)

all_range : (p : ℕ → Bool) (base count : ℕ) → ((n : ℕ) → base ≤ n → n < base + count → p n ≡ true) → list_all p (range_with_len base count) ≡ true
all_range p base zero each = refl
all_range p base (suc count) each =
    ap₂ ◌&&◌ (each base (omega arith) (omega arith)) (all_range p (base + 1) count (λ n above below. each n (omega (arith, above)) (omega (arith, below))))

-- elements whose numbers are their places
module _ {X : Type 0} (key : X → ℕ) where
  none_below : (n base count : ℕ) (xs : List X) → AreInPlace key base count xs → n < base → has_number key n xs ≡ false
  none_below n base count xs placed below = none_of (λ x. eqb (key x) n) xs (λ k x there. ne_eqb (key x) n (λ same. omega (arith, same, placed.place k x there, below)))

  behind_first : (base count : ℕ) (x : X) (xs : List X) → AreInPlace key base (suc count) (x ∷ xs) → AreInPlace key (base + 1) count xs
  behind_first base count x xs placed = record { many = omega (arith, placed.many); place = λ k y there. omega (arith, placed.place (suc k) y there) }

  none_twice : (base count : ℕ) (xs : List X) → AreInPlace key base count xs → has_twice key xs ≡ false
  none_twice base count [] placed = refl
  none_twice base zero (x ∷ xs) placed = absurd (omega (arith, placed.many))
  none_twice base (suc count) (x ∷ xs) placed =
      let rest = behind_first base count x xs placed in
      neither (has_number key (key x) xs) (has_twice key xs) (none_below (key x) (base + 1) count xs rest (omega (arith, placed.place 0 x refl))) (none_twice (base + 1) count xs rest)

  is_number : (n count : ℕ) (xs : List X) → AreInPlace key 0 count xs → n < count → has_number key n xs ≡ true
  is_number n count xs placed below =
      let x = some_there xs n (omega (arith, below, placed.many)) in
      let same : eqb (key x.0) n ≡ true = eq-eqb (key x.0) n (placed.place n x.0 x.1 ∙ sym (from_none n)) in
      list_any_at (λ y. eqb (key y) n) xs n x.0 (slice_get_within xs n x.0 x.1) (subst (λ y. eqb (key y) n ≡ true) (sym (get_or_from_slice_get xs n x.0 x.0 x.1)) same)

  each_number : (count : ℕ) (xs : List X) → AreInPlace key 0 count xs → has_each key count xs ≡ true
  each_number count xs placed = all_range (λ n. has_number key n xs) 0 count (λ n above below. is_number n count xs placed (omega (arith, below)))

module _ (config : Config) (first id : ℕ) (ports : List PortState) (workers : List WorkerState) (port_ends : List PortEnded) (worker_ends : List WorkerEnded) (opened : IsOpenedAt config first id ports workers)
    (all : AreAllEnds ports workers port_ends worker_ends) where
  port_at : (k : ℕ) (e : PortEnded) → slice_get port_ends k ≡ Some e → (s : PortState) × (slice_get ports k ≡ Some s) × IsEndOfPort s e
  port_at = matched_at IsEndOfPort ports port_ends all.port

  worker_at : (k : ℕ) (w : WorkerEnded) → slice_get worker_ends k ≡ Some w → (s : WorkerState) × (slice_get workers k ≡ Some s) × IsEndOf s w
  worker_at = matched_at IsEndOf workers worker_ends all.worker

  ports_placed : AreInPlace port_of 0 (length ports) port_ends
  ports_placed = record {
    many = sym (matched_length IsEndOfPort ports port_ends all.port);
    place = λ k e there. let s = port_at k e there in s.2.port ∙ ap (λ (p : PortState). p.core.port) (opened.port k s.0 s.1) ∙ from_none k;
  }

  workers_placed : AreInPlace channel_of 0 (length workers) worker_ends
  workers_placed = record {
    many = sym (matched_length IsEndOf workers worker_ends all.worker);
    place = λ k w there. let s = worker_at k w there in s.2.number ∙ (opened.worker k s.0 s.1).number_is ∙ from_none k;
  }

  ends_of : AreEndsOf ports workers port_ends worker_ends
  ends_of = record {
    port = λ k e there.
        let s = port_at k e there in
        (s.0, subst (λ n. slice_get ports n ≡ Some s.0) (sym (ports_placed.place k e there ∙ sym (from_none k))) s.1, s.2);
    worker = λ k w there.
        let s = worker_at k w there in
        (s.0, subst (λ n. slice_get workers n ≡ Some s.0) (sym (workers_placed.place k w there ∙ sym (from_none k))) s.1, s.2);
  }

  ports_own : list_any (λ e. not (eqb e.id id)) port_ends ≡ false
  ports_own = none_of (λ e. not (eqb e.id id)) port_ends (λ k e there.
      let s = port_at k e there in
      ap not (eq-eqb e.id id (s.2.id ∙ ap (λ (p : PortState). p.id) (opened.port k s.0 s.1))))

  workers_own : list_any (λ w. not (eqb w.id id)) worker_ends ≡ false
  workers_own = none_of (λ w. not (eqb w.id id)) worker_ends (λ k w there.
      let s = worker_at k w there in
      ap not (eq-eqb w.id id (s.2.id ∙ (opened.worker k s.0 s.1).id_is)))

  none_foreign : is_foreign id port_ends worker_ends ≡ false
  none_foreign =
      neither (list_any (λ e. not (eqb e.id id)) port_ends) _ ports_own
      (neither (list_any (λ w. not (eqb w.id id)) worker_ends) _ workers_own
      (neither (has_twice port_of port_ends) (has_twice channel_of worker_ends) (none_twice port_of 0 (length ports) port_ends ports_placed) (none_twice channel_of 0 (length workers) worker_ends workers_placed)))

  each_channel : list_any (λ e. not (has_each channel_of (length e.requests) worker_ends)) port_ends ≡ false
  each_channel = none_of (λ e. not (has_each channel_of (length e.requests) worker_ends)) port_ends (λ k e there.
      let s = port_at k e there in
      let reach : length e.requests ≡ length workers = same_length s.0.requests e.requests s.2.requests ∙ opened.sides k s.0 s.1 ∙ sym opened.workers_are in
      ap not (subst (λ n. has_each channel_of n worker_ends ≡ true) (sym reach) (each_number channel_of (length workers) worker_ends workers_placed)))

  each_port : list_any (λ w. not (has_each port_of (length w.completions) port_ends)) worker_ends ≡ false
  each_port = none_of (λ w. not (has_each port_of (length w.completions) port_ends)) worker_ends (λ k w there.
      let s = worker_at k w there in
      let reach : length w.completions ≡ length ports = same_length s.0.completions w.completions s.2.completions ∙ opened.done_sides k s.0 s.1 ∙ sym opened.ports_are in
      ap not (subst (λ n. has_each port_of n port_ends ≡ true) (sym reach) (each_number port_of (length ports) port_ends ports_placed)))

  none_missing : 0 < length ports → 0 < length workers → is_missing port_ends worker_ends ≡ false
  none_missing some_port some_worker =
      neither (eqb (length port_ends) 0) _ (ne_eqb (length port_ends) 0 (λ none. omega (arith, none, some_port, ports_placed.many)))
      (neither (eqb (length worker_ends) 0) _ (ne_eqb (length worker_ends) 0 (λ none. omega (arith, none, some_worker, workers_placed.many)))
      (neither (list_any (λ e. not (has_each channel_of (length e.requests) worker_ends)) port_ends) _ each_channel each_port))

pub all_ends : (config : Config) (first id : ℕ) (ports : List PortState) (workers : List WorkerState) (port_ends : List PortEnded) (worker_ends : List WorkerEnded)
    → IsOpenedAt config first id ports workers → 0 < length ports → 0 < length workers → AreAllEnds ports workers port_ends worker_ends → AreComplete id port_ends worker_ends
all_ends config first id ports workers port_ends worker_ends opened some_port some_worker all = record {
  one = one_open config first id ports workers port_ends worker_ends opened (ends_of config first id ports workers port_ends worker_ends opened all);
  own = none_foreign config first id ports workers port_ends worker_ends opened all;
  whole = none_missing config first id ports workers port_ends worker_ends opened all some_port some_worker;
}
