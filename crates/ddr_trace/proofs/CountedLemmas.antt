-- The entry that so many entries of a kind follow, as the newest entry joins the history.
use Rattle.std.proofs.Common.{◌≡◌, ℕ, ◌+◌, Bool, true, false, ◌&&◌, ◌==◌, List, [], ◌∷◌, ◌++◌, count_by, cond, refl, arith, ap, ◌∙◌}
use Rattle.std.proofs.lemmas.Bool.Decides.{nat_tests}
use Rattle.std.proofs.lemmas.List.Sums.{sum_by-append}
use Rattle.ddr_trace.specs.declared.command.Entry.{Entry}
use Rattle.ddr_trace.specs.Rules.{some_earlier}
use Rattle.ddr_trace.proofs.Earlier.{some_earlier_skip, some_earlier_stop}

-- the entry is of the kind, so many of the kind stand between, and it passes the test
abbrev pub passes_after : (Entry → Bool) → (Entry → Bool) → (Entry → Bool) → ℕ → Entry → List Entry → Bool
passes_after kind counted test n a between = kind a && (count_by counted between == n) && test a

count_yes : (p : Entry → Bool) (xs : List Entry) (x : Entry) → p x ≡ true → count_by p (xs ++ x ∷ []) ≡ count_by p xs + 1
count_yes p xs x h = sum_by-append (λ y. cond (p y) 1 0) xs (x ∷ []) ∙ rw h (omega arith)

count_no : (p : Entry → Bool) (xs : List Entry) (x : Entry) → p x ≡ false → count_by p (xs ++ x ∷ []) ≡ count_by p xs
count_no p xs x h = sum_by-append (λ y. cond (p y) 1 0) xs (x ∷ []) ∙ rw h (omega arith)

same_after : (m n : ℕ) → (m + 1 == n + 1) ≡ (m == n)
same_after m n = grind (arith, nat_tests)

not_none : (m : ℕ) → (m + 1 == 0) ≡ false
not_none m = grind (arith, nat_tests)

none_more : (n : ℕ) → (0 == n + 1) ≡ false
none_more n = grind (arith, nat_tests)

and_false : (a b : Bool) → (a && false && b) ≡ false
and_false true b = refl
and_false false b = refl

-- the newest entry is not counted
pub counted_skip : (kind counted test : Entry → Bool) (n : ℕ) (before : List Entry) (x : Entry) → counted x ≡ false → kind x ≡ false → some_earlier (passes_after kind counted test n) (before ++ x ∷ []) ≡ some_earlier (passes_after kind counted test n) before
counted_skip kind counted test n before x not_counted not_kind =
    some_earlier_skip _ _ before x
    (λ a between. ap (λ m. kind a && (m == n) && test a) (count_no counted between x not_counted))
    (rw not_kind)

-- the newest entry is counted
pub counted_next : (kind counted test : Entry → Bool) (n : ℕ) (before : List Entry) (x : Entry) → counted x ≡ true → some_earlier (passes_after kind counted test (n + 1)) (before ++ x ∷ []) ≡ some_earlier (passes_after kind counted test n) before
counted_next kind counted test n before x is_counted =
    some_earlier_skip _ _ before x
    (λ a between. ap (λ b. kind a && b && test a) (ap (λ m. m == n + 1) (count_yes counted between x is_counted) ∙ same_after (count_by counted between) n))
    (ap (λ b. kind x && b && test x) (none_more n) ∙ and_false (kind x) (test x))

-- the newest entry is the one
pub counted_here : (kind counted test : Entry → Bool) (before : List Entry) (x : Entry) → counted x ≡ true → kind x ≡ true → some_earlier (passes_after kind counted test 0) (before ++ x ∷ []) ≡ test x
counted_here kind counted test before x is_counted is_kind =
    some_earlier_stop _ before x (test x)
    (λ a between. ap (λ b. kind a && b && test a) (ap (λ m. m == 0) (count_yes counted between x is_counted) ∙ not_none (count_by counted between)) ∙ and_false (kind a) (test a))
    (rw is_kind)
