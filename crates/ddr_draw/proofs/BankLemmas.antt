-- Something of each number below another.
use Rattle.std.proofs.Common.{◌≡◌, ℕ, zero, suc, ◌+◌, List, [], ◌∷◌, ◌++◌, refl, sym, ap, ◌∙◌, append_assoc, add-zero, zero-add, add-one, arith}
use Rattle.std.specs.Prelude.{flat_map}
use Rattle.std.specs.List.{fold, range_with_len}
use Rattle.std.proofs.lemmas.List.Sums.{fold-append}
use Rattle.std.proofs.lemmas.List.{append-nil}
use Rattle.ddr_timing.specs.declared.geometry.Geometry.{Geometry}
use Rattle.ddr_draw.specs.Names.{bank_numbered}

flat_map-range : {X : Type 0} (f : ℕ → List X) (a n : ℕ) → flat_map f (range_with_len a (suc n)) ≡ flat_map f (range_with_len a n) ++ f (a + n)
flat_map-range f a zero = rw add-zero (append-nil (f a))
flat_map-range f a (suc n) =
    let next : a + 1 + n ≡ a + suc n = omega arith in
    ap (λ xs. f a ++ xs) (flat_map-range f (a + 1) n ∙ ap (λ k. flat_map f (range_with_len (a + 1) n) ++ f k) next)
    ∙ sym (append_assoc (f a) (flat_map f (range_with_len (a + 1) n)) (f (a + suc n)))

-- one more
pub number_more : {X : Type 0} (f : ℕ → List X) (n : ℕ) → flat_map f (range_with_len 0 (n + 1)) ≡ flat_map f (range_with_len 0 n) ++ f n
number_more f n =
    ap (λ k. flat_map f (range_with_len 0 k)) (add-one n)
    ∙ flat_map-range f 0 n ∙ ap (λ k. flat_map f (range_with_len 0 n) ++ f k) (zero-add n)

-- the text of one more bank
pub bank_more : (f : List ℕ → List ℕ) (g : Geometry) (n : ℕ) (old new name line : List ℕ) → new ≡ old ++ line → line ≡ f name → name ≡ bank_numbered g n
    → old ≡ flat_map (λ k. f (bank_numbered g k)) (range_with_len 0 n) → new ≡ flat_map (λ k. f (bank_numbered g k)) (range_with_len 0 (n + 1))
bank_more f g n old new name line added is named so_far =
    added ∙ ap (λ xs. xs ++ line) so_far
    ∙ ap (λ l. flat_map (λ k. f (bank_numbered g k)) (range_with_len 0 n) ++ l) (is ∙ ap f named)
    ∙ sym (number_more (λ k. f (bank_numbered g k)) n)

pub text_more : (f : ℕ → List ℕ) (n : ℕ) (old new line : List ℕ) → new ≡ old ++ line → line ≡ f n → old ≡ flat_map f (range_with_len 0 n) → new ≡ flat_map f (range_with_len 0 (n + 1))
text_more f n old new line added is so_far =
    added ∙ ap (λ xs. xs ++ line) so_far ∙ ap (λ l. flat_map f (range_with_len 0 n) ++ l) is ∙ sym (number_more f n)

range-more : (a n : ℕ) → range_with_len a (n + 1) ≡ range_with_len a n ++ (a + n) ∷ []
range-more a n = ap (range_with_len a) (add-one n) ∙ go a n
  where
    go : (b k : ℕ) → range_with_len b (suc k) ≡ range_with_len b k ++ (b + k) ∷ []
    go b zero = rw add-zero refl
    go b (suc k) =
        let next : b + 1 + k ≡ b + suc k = omega arith in
        ap (λ xs. b ∷ xs) (go (b + 1) k ∙ ap (λ m. range_with_len (b + 1) k ++ m ∷ []) next)

-- one number more
pub fold-range : {X : Type 0} (f : X → ℕ → X) (x : X) (n : ℕ) → fold f x (range_with_len 0 (n + 1)) ≡ f (fold f x (range_with_len 0 n)) n
fold-range f x n =
    ap (fold f x) (range-more 0 n) ∙ fold-append f x (range_with_len 0 n) ((0 + n) ∷ [])
    ∙ ap (f (fold f x (range_with_len 0 n))) (zero-add n)
