-- A test of some earlier entry, as the newest entry joins the history.
use Rattle.std.proofs.Common.{◌≡◌, Bool, true, false, ◌||◌, List, [], ◌∷◌, ◌++◌, refl}
use Rattle.ddr_trace.specs.declared.command.Entry.{Entry}
use Rattle.ddr_trace.specs.Rules.{some_earlier}

-- the newest entry does not pass, and lets each earlier one pass by the second test as it did by the first
pub some_earlier_skip : (test next : Entry → List Entry → Bool) (xs : List Entry) (x : Entry) → ((a : Entry) (between : List Entry) → test a (between ++ x ∷ []) ≡ next a between) → test x [] ≡ false → some_earlier test (xs ++ x ∷ []) ≡ some_earlier next xs
some_earlier_skip test next [] x same here = rw here
some_earlier_skip test next (a ∷ xs) x same here =
    rw (same a xs, some_earlier_skip test next xs x same here)

-- the newest entry passes
pub some_earlier_here : (test : Entry → List Entry → Bool) (xs : List Entry) (x : Entry) → test x [] ≡ true → some_earlier test (xs ++ x ∷ []) ≡ true
some_earlier_here test [] x here = rw here
some_earlier_here test (a ∷ xs) x here = rw (some_earlier_here test xs x here) (or_true (test a (xs ++ x ∷ [])))
  where
    or_true : (b : Bool) → (b || true) ≡ true
    or_true true = refl
    or_true false = refl

-- no entry passes by this test
pub some_earlier_none : (xs : List Entry) → some_earlier (λ _ _. false) xs ≡ false
some_earlier_none [] = refl
some_earlier_none (a ∷ xs) = some_earlier_none xs

-- two tests that agree
pub some_earlier_same : (test next : Entry → List Entry → Bool) (xs : List Entry) → ((a : Entry) (between : List Entry) → test a between ≡ next a between) → some_earlier test xs ≡ some_earlier next xs
some_earlier_same test next [] same = refl
some_earlier_same test next (a ∷ xs) same = rw (same a xs, some_earlier_same test next xs same)

-- the newest entry passes as the third test says, and stops each earlier one
pub some_earlier_stop : (test : Entry → List Entry → Bool) (xs : List Entry) (x : Entry) (answer : Bool) → ((a : Entry) (between : List Entry) → test a (between ++ x ∷ []) ≡ false) → test x [] ≡ answer → some_earlier test (xs ++ x ∷ []) ≡ answer
some_earlier_stop test [] x true stops here = rw here
some_earlier_stop test [] x false stops here = rw here
some_earlier_stop test (a ∷ xs) x answer stops here =
    rw (stops a xs) (some_earlier_stop test xs x answer stops here)
