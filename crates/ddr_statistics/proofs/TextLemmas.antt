-- The texts of the first n numbers, as the next one joins them.
use Rattle.std.proofs.Common.{◌≡◌, ℕ, zero, suc, ◌+◌, List, ◌++◌, sym, ap, add-zero, zero-add, add-one, append_assoc, arith, ◌∙◌}
use Rattle.std.proofs.lemmas.List.{append-nil}
use Rattle.std.specs.List.{flat_map, range_with_len}

flat_map-range : (f : ℕ → List ℕ) (a n : ℕ) → flat_map f (range_with_len a (suc n)) ≡ flat_map f (range_with_len a n) ++ f (a + n)
flat_map-range f a zero = append-nil (f a) ∙ ap f (sym (add-zero a))
flat_map-range f a (suc n) =
    let place : (a + 1) + n ≡ a + suc n = omega arith in
    ap (λ (t : List ℕ). f a ++ t) (flat_map-range f (a + 1) n)
    ∙ sym (append_assoc (f a) (flat_map f (range_with_len (a + 1) n)) (f ((a + 1) + n)))
    ∙ ap (λ k. (f a ++ flat_map f (range_with_len (a + 1) n)) ++ f k) place

pub next_text : (f : ℕ → List ℕ) (n : ℕ) → flat_map f (range_with_len 0 (n + 1)) ≡ flat_map f (range_with_len 0 n) ++ f n
next_text f n =
    ap (λ k. flat_map f (range_with_len 0 k)) (add-one n)
    ∙ flat_map-range f 0 n
    ∙ ap (λ k. flat_map f (range_with_len 0 n) ++ f k) (zero-add n)
