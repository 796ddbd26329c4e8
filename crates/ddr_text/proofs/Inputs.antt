-- Reading an input of known bytes.
use Rattle.std.proofs.Common.{◌≡◌, ℕ, ◌+◌, ◌<◌, List, [], length, Option, None, Some, IfSome, refl, subst, append-nil, arith, length-append}
use Rattle.std.specs.Io.KnownBytes.{Consumes, IsAtEnd}
use Rattle.std.proofs.KnownBytes.{Consumes-trans, Consumes-all}

-- a reader that gives no more has given all
pub all_taken : (a b c : Option (List ℕ)) (taken : List ℕ) → Consumes a b taken → Consumes b c [] → IsAtEnd c → IfSome a (λ bytes. taken ≡ bytes)
all_taken a b c taken p q end =
    Consumes-all a c taken [] taken (subst (Consumes a c) (append-nil taken) (Consumes-trans a b c taken [] p q)) end refl

-- a reader that gave more than so many bytes had more
pub more_taken : (a b c : Option (List ℕ)) (n : ℕ) (taken next : List ℕ) → Consumes a b taken → Consumes b c next → n < length taken + length next → IfSome a (λ bytes. n < length bytes)
more_taken None b c n taken next p q long = tt
more_taken (Some x) None c n taken next p q long = absurd p
more_taken (Some x) (Some y) None n taken next p q long = absurd q
more_taken (Some x) (Some y) (Some z) n taken next p q long = rw (p, q) (simp length-append (omega arith))
