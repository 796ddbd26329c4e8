-- Every fault of a trace, place by place.
use Rattle.std.proofs.Common.{◌≡◌, ℕ, zero, suc, ◌+◌, ◌<◌, ◌≤◌, Bool, true, false, ◌&&◌, cond, List, [], ◌∷◌, ◌++◌, length, take, get_or, map, Option, Some, refl, sym, ap, ◌∙◌, append_assoc, add-zero, zero-add, add-one, arith}
use Rattle.std.specs.Prelude.{flat_map, ◌==◌, slice_get}
use Rattle.std.specs.List.{filter, list_all, range_with_len}
use Rattle.std.proofs.lemmas.List.{append-nil, map-append}
use Rattle.std.proofs.lemmas.List.Elements.{filter_more}
use Rattle.std.proofs.lemmas.List.Folds.{list_all_at}
use Rattle.std.proofs.lemmas.Option.{slice_get-get_or, slice_get_past}
use Rattle.std.proofs.lemmas.Bool.Decides.{nat_tests}
use Rattle.ddr_timing.specs.declared.config.Config.{Config}
use Rattle.ddr_trace.specs.declared.checker.Fault.{Fault}
use Rattle.ddr_trace.specs.declared.command.Entry.{Entry}
use Rattle.ddr_trace.specs.declared.rule.Rule.{Rule}
use Rattle.ddr_trace.specs.declared.rule.Rule.TheVariants as rule
use Rattle.ddr_trace.specs.declared.rule.TheConstants.Rule.{ALL}
use Rattle.ddr_trace.specs.Legality.{breaks_at, breaks_at_end, breaks_where}
use Rattle.ddr_trace.specs.Rules.{breaks, ends_late}
use Rattle.ddr_explain.specs.AllFaults.{all_faults, fault_at, faults_at}

pub filter_empty : {X : Type 0} (p : X → Bool) (xs : List X) → ((x : X) → p x ≡ false) → filter p xs ≡ []
filter_empty p [] none = refl
filter_empty p (x ∷ xs) none = rw (none x) (filter_empty p xs none)

-- one more rule, which is broken or not
pub rule_broken : (test : Rule → Bool) (make : Rule → Fault) (base old new : List Fault) (i : ℕ) → i < length ALL → test (get_or ALL i rule.Order) ≡ true → new ≡ old ++ make (get_or ALL i rule.Order) ∷ []
    → old ≡ base ++ map make (filter test (take i ALL)) → new ≡ base ++ map make (filter test (take (i + 1) ALL))
rule_broken test make base old new i within broken pushed so_far =
    pushed ∙ ap (λ fs. fs ++ make (get_or ALL i rule.Order) ∷ []) so_far
    ∙ append_assoc base (map make (filter test (take i ALL))) (make (get_or ALL i rule.Order) ∷ [])
    ∙ ap (λ fs. base ++ fs) (sym (map-append make (filter test (take i ALL)) (get_or ALL i rule.Order ∷ [])))
    ∙ ap (λ rs. base ++ map make rs) (sym (filter_more test ALL i rule.Order within ∙ ap (λ b. filter test (take i ALL) ++ cond b (get_or ALL i rule.Order ∷ []) []) broken))

pub rule_kept : (test : Rule → Bool) (make : Rule → Fault) (base old : List Fault) (i : ℕ) → i < length ALL → test (get_or ALL i rule.Order) ≡ false
    → old ≡ base ++ map make (filter test (take i ALL)) → old ≡ base ++ map make (filter test (take (i + 1) ALL))
rule_kept test make base old i within kept so_far =
    so_far ∙ ap (λ rs. base ++ map make rs) (sym (filter_more test ALL i rule.Order within ∙ ap (λ b. filter test (take i ALL) ++ cond b (get_or ALL i rule.Order ∷ []) []) kept ∙ append-nil (filter test (take i ALL))))

-- one more place
flat_map-range : {X : Type 0} (f : ℕ → List X) (a n : ℕ) → flat_map f (range_with_len a (suc n)) ≡ flat_map f (range_with_len a n) ++ f (a + n)
flat_map-range f a zero = rw add-zero (append-nil (f a))
flat_map-range f a (suc n) =
    let next : a + 1 + n ≡ a + suc n = omega arith in
    ap (λ xs. f a ++ xs) (flat_map-range f (a + 1) n ∙ ap (λ k. flat_map f (range_with_len (a + 1) n) ++ f k) next)
    ∙ sym (append_assoc (f a) (flat_map f (range_with_len (a + 1) n)) (f (a + suc n)))

flat_map-below : {X : Type 0} (f : ℕ → List X) (n : ℕ) → flat_map f (range_with_len 0 (suc n)) ≡ flat_map f (range_with_len 0 n) ++ f n
flat_map-below f n = flat_map-range f 0 n ∙ ap (λ k. flat_map f (range_with_len 0 n) ++ f k) (zero-add n)

pub place_more : (c : Config) (start end : ℕ) (entries : List Entry) (place : ℕ) (old new : List Fault) → new ≡ old ++ faults_at c start end entries place
    → old ≡ flat_map (faults_at c start end entries) (range_with_len 0 place) → new ≡ flat_map (faults_at c start end entries) (range_with_len 0 (place + 1))
place_more c start end entries place old new added so_far =
    added ∙ ap (λ fs. fs ++ faults_at c start end entries place) so_far
    ∙ sym (flat_map-below (faults_at c start end entries) place)
    ∙ ap (λ n. flat_map (faults_at c start end entries) (range_with_len 0 n)) (sym (add-one place))

-- the faults at a place, by the entry there
pub faults_here : (c : Config) (start end : ℕ) (entries : List Entry) (place : ℕ) (d : Entry) → place < length entries
    → map (fault_at place) (filter (λ r. breaks c start end r (take place entries) (get_or entries place d)) ALL) ≡ faults_at c start end entries place
faults_here c start end entries place d within =
    ap (λ (o : Option Entry). map (fault_at place) (filter (λ r. breaks_where c start end entries o place r) ALL)) (sym (slice_get-get_or entries place d within))

-- a place at which none is broken
pub place_kept : (c : Config) (start end : ℕ) (entries : List Entry) (place : ℕ) (old : List Fault) → ((r : Rule) → breaks_at c start end entries place r ≡ false)
    → old ≡ flat_map (faults_at c start end entries) (range_with_len 0 place) → old ≡ flat_map (faults_at c start end entries) (range_with_len 0 (place + 1))
place_kept c start end entries place old kept so_far =
    so_far ∙ sym (append-nil (flat_map (faults_at c start end entries) (range_with_len 0 place)))
    ∙ ap (λ rs. flat_map (faults_at c start end entries) (range_with_len 0 place) ++ map (fault_at place) rs) (sym (filter_empty (breaks_at c start end entries place) ALL kept))
    ∙ sym (flat_map-below (faults_at c start end entries) place)
    ∙ ap (λ n. flat_map (faults_at c start end entries) (range_with_len 0 n)) (sym (add-one place))

-- where each place is known to have none, there is none
at_kept : (kept : List Bool) (n : ℕ) → list_all (λ is_kept. is_kept) kept ≡ true → n < length kept → slice_get kept n ≡ Some true
at_kept kept n all within = go (get_or kept n true) refl
  where
    go : (b : Bool) → get_or kept n true ≡ b → slice_get kept n ≡ Some true
    go true is = slice_get-get_or kept n true within ∙ ap Some is
    go false is = absurd (let none = list_all_at (λ is_kept. is_kept) kept n true within is in cc)

pub all_kept : (c : Config) (start end : ℕ) (entries : List Entry) (kept : List Bool) → length kept ≡ length entries → ((place : ℕ) (r : Rule) → slice_get kept place ≡ Some true → breaks_at c start end entries place r ≡ false)
    → list_all (λ is_kept. is_kept) kept ≡ true → [] ≡ flat_map (faults_at c start end entries) (range_with_len 0 (length entries))
all_kept c start end entries kept each known all = up_to (length entries) (omega arith)
  where
    up_to : (n : ℕ) → n ≤ length entries → [] ≡ flat_map (faults_at c start end entries) (range_with_len 0 n)
    up_to zero within = refl
    up_to (suc n) within =
        place_kept c start end entries n [] (λ r. known n r (at_kept kept n all (omega (arith, within, each)))) (up_to n (omega (arith, within)))
        ∙ ap (λ k. flat_map (faults_at c start end entries) (range_with_len 0 k)) (add-one n)

-- the trace's end
end_alone : (c : Config) (start end : ℕ) (entries : List Entry) (here : Bool) → here ≡ true → filter (λ r. here && breaks_at_end c start end entries r) ALL ≡ cond (ends_late c start end entries) (rule.RefLate ∷ []) []
end_alone c start end entries here e = rw e refl

faults_at_end : (c : Config) (start end : ℕ) (entries : List Entry) → faults_at c start end entries (length entries) ≡ map (fault_at (length entries)) (cond (ends_late c start end entries) (rule.RefLate ∷ []) [])
faults_at_end c start end entries =
    let n : ℕ = length entries in
    let itself : (n == n) ≡ true = grind (arith, nat_tests) in
    ap (λ o. map (fault_at n) (filter (λ r. breaks_where c start end entries o n r) ALL)) (slice_get_past entries n (omega arith))
    ∙ ap (map (fault_at n)) (end_alone c start end entries (n == n) itself)

pub all_of : (c : Config) (start end : ℕ) (entries : List Entry) (late : Bool) → ends_late c start end entries ≡ late → all_faults c start end entries ≡ flat_map (faults_at c start end entries) (range_with_len 0 (length entries)) ++ map (fault_at (length entries)) (cond late (rule.RefLate ∷ []) [])
unfolding all_faults
all_of c start end entries late e =
    ap (λ n. flat_map (faults_at c start end entries) (range_with_len 0 n)) (add-one (length entries))
    ∙ flat_map-below (faults_at c start end entries) (length entries)
    ∙ ap (λ fs. flat_map (faults_at c start end entries) (range_with_len 0 (length entries)) ++ fs) (faults_at_end c start end entries ∙ ap (λ b. map (fault_at (length entries)) (cond b (rule.RefLate ∷ []) [])) e)
