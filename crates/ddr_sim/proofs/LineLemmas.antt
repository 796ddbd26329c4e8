-- A line that is put together piece by piece.
use Rattle.std.proofs.Common.{◌≡◌, ℕ, ◌+◌, ◌/◌, ◌^◌, ◌<◌, ◌≤◌, List, ◌++◌, length, ap, ◌∙◌, append_assoc}
use Rattle.std.specs.Fmt.{decimal}
use Rattle.std.proofs.lemmas.Fmt.{decimal_digit, decimal_step}
use Rattle.std.proofs.lemmas.List.{length-append}

regroup : (line a b c d e : List ℕ) → ((((line ++ a) ++ b) ++ c) ++ d) ++ e ≡ line ++ (a ++ (b ++ (c ++ (d ++ e))))
regroup line a b c d e = simp append_assoc

-- five pieces, one behind another
pub five_pieces : (line l1 l2 l3 l4 l5 a b c d e : List ℕ) → l1 ≡ line ++ a → l2 ≡ l1 ++ b → l3 ≡ l2 ++ c → l4 ≡ l3 ++ d → l5 ≡ l4 ++ e → l5 ≡ line ++ (a ++ (b ++ (c ++ (d ++ e))))
five_pieces line l1 l2 l3 l4 l5 a b c d e first second third fourth fifth =
    fifth ∙ ap (λ (l : List ℕ). l ++ e) (fourth ∙ ap (λ (l : List ℕ). l ++ d) (third ∙ ap (λ (l : List ℕ). l ++ c) (second ∙ ap (λ (l : List ℕ). l ++ b) first))) ∙ regroup line a b c d e

-- how many digits a number has
pub one_digit : (n : ℕ) → n < 10 → length (decimal n) ≡ 1
one_digit n small = ap length (decimal_digit n small)

pub digit_longer : (n : ℕ) → 10 ≤ n → n < 2 ^ 64 → length (decimal n) ≡ length (decimal (n / 10)) + 1
digit_longer n many small = ap length (decimal_step n many small) ∙ length-append _ _
