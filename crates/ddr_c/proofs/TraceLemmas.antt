-- Entries that are copied one after another.
use Rattle.std.proofs.Common.{◌≡◌, ◌<◌, ℕ, zero, suc, List, [], ◌∷◌, ◌++◌, Some, length, map, take, drop, get_or, sym, ap, ◌∙◌, arith}
use Rattle.std.specs.List.{slice_get, slice_set}
use Rattle.std.proofs.lemmas.Option.{slice_get-get_or}

-- one more
pub copied_more : {X Y : Type 0} (f : X → Y) (i : ℕ) (xs : List X) (ys : List Y) (x : X) → slice_get xs i ≡ Some x → i < length ys
    → slice_set (map f (take i xs) ++ drop i ys) i (f x) ≡ map f (take (suc i) xs) ++ drop (suc i) ys
copied_more f zero [] ys x there within = absurd (let impossible = there in cc)
copied_more f zero (y ∷ xs) [] x there within = absurd (omega (arith, within))
copied_more f zero (y ∷ xs) (z ∷ ys) x there within =
    let same : x ≡ y = cc in
    ap (λ v. f v ∷ ys) same
copied_more f (suc i) [] ys x there within = absurd (let impossible = there in cc)
copied_more f (suc i) (y ∷ xs) [] x there within = absurd (omega (arith, within))
copied_more f (suc i) (y ∷ xs) (z ∷ ys) x there within = ap (λ v. f y ∷ v) (copied_more f i xs ys x there (omega (arith, within)))

pub copied_on : {X Y : Type 0} (f : X → Y) (i n : ℕ) (xs : List X) (ys zs : List Y) (d : X) (y : Y) → zs ≡ map f (take i xs) ++ drop i ys → y ≡ f (get_or xs i d) → i < length xs → i < length ys → n ≡ suc i
    → slice_set zs i y ≡ map f (take n xs) ++ drop n ys
copied_on f i n xs ys zs d y before is inside within one =
    ap (λ v. slice_set v i y) before ∙ ap (slice_set (map f (take i xs) ++ drop i ys) i) is ∙ copied_more f i xs ys (get_or xs i d) (slice_get-get_or xs i d inside) within
    ∙ ap (λ k. map f (take k xs) ++ drop k ys) (sym one)
