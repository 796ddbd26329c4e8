-- Going over the fields of a line, of which six are kept.
use Rattle.std.proofs.Common.{◌≡◌, ℕ, zero, suc, ◌<◌, ◌≤◌, Bool, true, false, ◌==◌, List, [], ◌∷◌, ◌++◌, length, filter, cond, map, take, Option, None, Result, refl, sym, subst, ap, ◌∙◌, append_assoc, append-nil, nat_lt, arith}
use Rattle.std.specs.List.{after_first, before_first, position_or_len, slice_split}
use Rattle.std.proofs.Math.Seq.{take-append_seam}
use Rattle.std.proofs.lemmas.List.{take_all}
use Rattle.std.proofs.lemmas.List.Elements.{filter-append}
use Rattle.std.proofs.lemmas.List.Splits.{slice_split_first, slice_split_none}
use Rattle.std.proofs.lemmas.List.Sums.{fails_before_first}
use Rattle.ddr_text.specs.declared.script.Instruction as kept
use Rattle.ddr_text.specs.declared.script.LineError.{LineError}
use Rattle.ddr_text.specs.Lines.{Gives}
use Rattle.ddr_text.specs.Script.{fields_of, has_space_at_end, instruction_of, kept_field, of_fields, view}

-- where a list was cut already, cutting it again behind more is cutting once
take_twice : {X : Type 0} (n : ℕ) (xs ys : List X) → take n (take n xs ++ ys) ≡ take n (xs ++ ys)
take_twice zero xs ys = refl
take_twice (suc n) [] ys = refl
take_twice (suc n) (x ∷ xs) ys = ap (λ more. x ∷ more) (take_twice n xs ys)

-- the first field, where a space stands behind it
fields_at : (rest : List ℕ) → position_or_len (λ b. b == 32) rest < length rest → fields_of rest ≡ kept_field (before_first (λ b. b == 32) rest) ++ fields_of (after_first (λ b. b == 32) rest)
fields_at rest found =
    let kept : List ℕ → Bool = λ field. nat_lt 0 (length field) in
    ap (filter kept) (slice_split_first (λ b. b == 32) rest 0 found)
    ∙ filter-append kept (before_first (λ b. b == 32) rest ∷ []) (slice_split (λ b. b == 32) (after_first (λ b. b == 32) rest))

-- the last field
fields_end : (rest : List ℕ) → position_or_len (λ b. b == 32) rest ≡ length rest → fields_of rest ≡ kept_field rest
fields_end rest none =
    ap (filter (λ (field : List ℕ). nat_lt 0 (length field))) (slice_split_none (λ b. b == 32) rest (λ k d below. fails_before_first (λ b. b == 32) rest k d (omega (arith, none))))

-- a field more
pub fields_more : (old new all : List (List ℕ)) (rest field behind : List ℕ) → (field ≡ before_first (λ b. b == 32) rest) × (behind ≡ after_first (λ b. b == 32) rest) × (position_or_len (λ b. b == 32) rest < length rest)
    → new ≡ take 6 (old ++ kept_field field) → take 6 (old ++ fields_of rest) ≡ all → take 6 (new ++ fields_of behind) ≡ all
fields_more old new all rest field behind (front, back, found) added so_far =
    let parts : fields_of rest ≡ kept_field field ++ fields_of behind =
    fields_at rest found ∙ ap (λ (b : List ℕ). kept_field b ++ fields_of (after_first (λ b. b == 32) rest)) (sym front) ∙ ap (λ (b : List ℕ). kept_field field ++ fields_of b) (sym back) in
    ap (λ (b : List (List ℕ)). take 6 (b ++ fields_of behind)) added
    ∙ take_twice 6 (old ++ kept_field field) (fields_of behind)
    ∙ ap (take 6) (append_assoc old (kept_field field) (fields_of behind) ∙ ap (λ (b : List (List ℕ)). old ++ b) (sym parts))
    ∙ so_far

-- the last field, and then all of them
pub fields_last : (old new all : List (List ℕ)) (rest : List ℕ) → position_or_len (λ b. b == 32) rest ≡ length rest → new ≡ take 6 (old ++ kept_field rest) → take 6 (old ++ fields_of rest) ≡ all → new ≡ all
fields_last old new all rest none added so_far =
    added ∙ ap (λ (b : List (List ℕ)). take 6 (old ++ b)) (sym (fields_end rest none)) ∙ so_far

-- there is no room for a field
pub fields_full : (old : List (List ℕ)) (field : List ℕ) → length old ≡ 6 → old ≡ take 6 (old ++ kept_field field)
fields_full old field full = sym (take-append_seam old (kept_field field)) ∙ ap (λ n. take n (old ++ kept_field field)) full

-- an empty field is none
pub fields_same : (old : List (List ℕ)) (field : List ℕ) → length old ≤ 6 → length field ≡ 0 → old ≡ take 6 (old ++ kept_field field)
fields_same old field within empty =
    sym (take_all 6 old within) ∙ ap (take 6) (sym (append-nil old) ∙ ap (λ (n : ℕ). old ++ cond (nat_lt 0 n) (field ∷ []) []) (sym empty))

-- a line of six fields says nothing
same_fields : (ports : ℕ) (all : List (List ℕ)) → of_fields ports (take 6 all) ≡ of_fields ports all
same_fields ports [] = refl
same_fields ports (a ∷ []) = refl
same_fields ports (a ∷ b ∷ []) = refl
same_fields ports (a ∷ b ∷ c ∷ []) = refl
same_fields ports (a ∷ b ∷ c ∷ d ∷ []) = refl
same_fields ports (a ∷ b ∷ c ∷ d ∷ e ∷ []) = refl
same_fields ports (a ∷ b ∷ c ∷ d ∷ e ∷ f ∷ more) = refl

-- what the kept fields say, the line says
pub said_by_fields : (ports : ℕ) (line : List ℕ) (fields : List (List ℕ)) (r : Result kept.Instruction LineError) → has_space_at_end line ≡ false → fields ≡ take 6 (fields_of line) → Gives view r (of_fields ports fields) → Gives view r (instruction_of ports line)
unfolding instruction_of
said_by_fields ports line fields r inside is said =
    subst (Gives view r) (ap (of_fields ports) is ∙ same_fields ports (fields_of line) ∙ sym (ap (λ (b : Bool). cond b None (of_fields ports (fields_of line))) inside)) said
