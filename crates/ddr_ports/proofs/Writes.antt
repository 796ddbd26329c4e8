-- The line of a write.
use Rattle.std.proofs.Common.{◌≡◌, ℕ, ◌+◌, ◌-◌, ◌≤◌, List, ◌++◌, length, replicate, drop, ◌∙◌, ap₂, ap, arith}
use Rattle.std.proofs.lemmas.List.{take-replicate, drop-replicate}
use borrow.Rule.Slice.PartMut.{put_mid}

-- zeros, and bytes written over them from a place on
pub put_mid-zeros : (n start k : ℕ) (bytes new : List ℕ) → start + length bytes ≤ n → k ≡ length bytes → new ≡ bytes → put_mid start k (replicate n 0) new ≡ replicate start 0 ++ (bytes ++ replicate (n - (start + length bytes)) 0)
put_mid-zeros n start k bytes new within e same =
    let after : drop k (drop start (replicate n 0)) ≡ replicate (n - (start + length bytes)) 0 =
    ap (drop k) (drop-replicate start n 0) ∙ drop-replicate k (n - start) 0 ∙ ap (λ m. replicate m 0) (omega arith)
    in ap₂ ◌++◌ (take-replicate start n 0 (omega arith)) (ap₂ ◌++◌ same after)
