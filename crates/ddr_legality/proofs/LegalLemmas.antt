-- Lemmas on legal traces that grow, and on what may be issued.
use Rattle.std.proofs.Common.{◌≡◌, ℕ, zero, suc, ◌+◌, ◌<◌, Bool, true, false, ◌&&◌, not, eqb, ltb, leb, List, [], ◌∷◌, ◌++◌, Option, Some, None, length, take, refl, sym, ap, subst, ◌∙◌, inl, inr, arith}
use Rattle.std.specs.List.{slice_get}
use Rattle.std.proofs.lemmas.Bool.{and_parts, and_from, not-false, ltb-true, lt-ltb, and_right, cases_order, false≢true}
use Rattle.std.proofs.lemmas.List.{take-append-le, take_at, length_push}
use Rattle.std.proofs.lemmas.Option.{slice_get_past}
use Rattle.ddr_trace.proofs.LowestLemmas.{lowest_passes, none_broken}
use Rattle.circular_buffer.proofs.Places.{slice_get-append_left, slice_get-last}
use Rattle.ddr_timing.specs.declared.config.Config.{Config}
use Rattle.ddr_trace.specs.declared.command.Entry.{Entry}
use Rattle.ddr_trace.specs.declared.rule.Rule.{Rule}
use Rattle.ddr_trace.specs.declared.rule.Rule.TheVariants as rule
use Rattle.ddr_trace.specs.Rules.{breaks, is_on_commands, last_cycle_below}
use Rattle.ddr_trace.specs.Legality.{breaks_at_end, breaks_where, lowest_broken, IsLegal, KeepsRules}

order_later : (a b : Bool) (cycle end : ℕ) → not ((a && b) && ltb cycle end) ≡ false → not ((a && b) && ltb cycle (end + 1)) ≡ false
order_later a b cycle end kept =
    let whole = and_parts (a && b) (ltb cycle end) (not-false _ kept) in
    let below = ltb-true cycle end whole.1 in
    ap not (and_from (a && b) (ltb cycle (end + 1)) whole.0 (lt-ltb cycle (end + 1) (omega arith)))

-- an entry that keeps a rule keeps it when the trace ends later
pub kept_later : (c : Config) (start end : ℕ) (r : Rule) (history : List Entry) (e : Entry) → breaks c start end r history e ≡ false → breaks c start (end + 1) r history e ≡ false
kept_later c start end rule.Order history e kept = order_later (last_cycle_below history e.cycle) (leb start e.cycle) e.cycle end kept
kept_later c start end r history e kept = kept

-- a rule on commands is not broken at the end of a trace
pub not_at_end : (c : Config) (start end : ℕ) (entries : List Entry) (r : Rule) → is_on_commands r ≡ true → breaks_at_end c start end entries r ≡ false
not_at_end c start end entries rule.RefLate on_commands = absurd (false≢true on_commands)
not_at_end c start end entries r on_commands = refl

-- the empty trace is legal
pub IsLegal-empty : (c : Config) (start end : ℕ) → IsLegal c start end []
IsLegal-empty c start end place r on_commands = and_right (eqb place 0) _ (not_at_end c start end [] r on_commands)

where_later : (c : Config) (start end : ℕ) (entries : List Entry) (o : Option Entry) (place : ℕ) (r : Rule) → is_on_commands r ≡ true →
    breaks_where c start end entries o place r ≡ false → breaks_where c start (end + 1) entries o place r ≡ false
where_later c start end entries (Some e) place r on_commands kept = kept_later c start end r (take place entries) e kept
where_later c start end entries None place r on_commands kept = and_right (eqb place (length entries)) _ (not_at_end c start (end + 1) entries r on_commands)

-- a legal trace stays legal when it ends later
pub IsLegal-later : (c : Config) (start end : ℕ) (entries : List Entry) → IsLegal c start end entries → IsLegal c start (end + 1) entries
IsLegal-later c start end entries legal place r on_commands =
    where_later c start end entries (slice_get entries place) place r on_commands (legal place r on_commands)

-- a legal trace stays legal when it ends so many cycles later
pub IsLegal-later_by : (count : ℕ) (c : Config) (start end : ℕ) (entries : List Entry) → IsLegal c start end entries → IsLegal c start (count + end) entries
IsLegal-later_by zero c start end entries legal = subst (λ (n : ℕ). IsLegal c start n entries) (omega arith) legal
IsLegal-later_by (suc count) c start end entries legal =
    subst (λ (n : ℕ). IsLegal c start n entries) (omega arith) (IsLegal-later c start (count + end) entries (IsLegal-later_by count c start end entries legal))

not_past : {X : Type 0} (xs : List X) (place : ℕ) → place < length xs → slice_get xs place ≡ None → ⊥
not_past [] place before is = omega arith
not_past (x ∷ xs) zero before is = cc
not_past (x ∷ xs) (suc place) before is = not_past xs place (omega arith) is

at_before : (c : Config) (start end : ℕ) (entries : List Entry) (e : Entry) (place : ℕ) (r : Rule) → place < length entries → (o : Option Entry) → slice_get entries place ≡ o →
    breaks_where c start end entries o place r ≡ false → breaks_where c start end (entries ++ e ∷ []) (slice_get (entries ++ e ∷ []) place) place r ≡ false
at_before c start end entries e place r before (Some x) is kept =
    ap (λ (p : Option Entry). breaks_where c start end (entries ++ e ∷ []) p place r) (slice_get-append_left entries (e ∷ []) place before ∙ is)
    ∙ ap (λ (history : List Entry). breaks c start end r history x) (take-append-le place entries (e ∷ []) (omega arith)) ∙ kept
at_before c start end entries e place r before None is kept = absurd (not_past entries place before is)

-- a legal trace stays legal with an entry that keeps the rules
pub IsLegal-append : (c : Config) (start end : ℕ) (entries : List Entry) (e : Entry) →
    IsLegal c start end entries → KeepsRules c start end entries e → IsLegal c start end (entries ++ e ∷ [])
IsLegal-append c start end entries e legal keeps place r on_commands = elim (cases_order place (length entries)) [
  | inl here ↦
      ap (λ (o : Option Entry). breaks_where c start end (entries ++ e ∷ []) o place r) (slice_get-last entries e place here)
      ∙ ap (λ (history : List Entry). breaks c start end r history e) (take_at entries (e ∷ []) place (sym here)) ∙ keeps r on_commands
  | inr (inl before) ↦ at_before c start end entries e place r before (slice_get entries place) refl (legal place r on_commands)
  | inr (inr after) ↦
      ap (λ (o : Option Entry). breaks_where c start end (entries ++ e ∷ []) o place r) (slice_get_past (entries ++ e ∷ []) place (omega (arith, length_push entries e)))
      ∙ and_right (eqb place (length (entries ++ e ∷ []))) _ (not_at_end c start end (entries ++ e ∷ []) r on_commands)
]

-- what breaks no rule on commands, as the lowest one
pub keeps_from_none : (c : Config) (start end : ℕ) (history : List Entry) (e : Entry) → lowest_broken c start end history e ≡ None → KeepsRules c start end history e
keeps_from_none c start end history e none r on_commands = rw on_commands at (none_broken (λ q. is_on_commands q && breaks c start end q history e) none r)

-- an entry by which a trace stays legal breaks none
pub none_from_longer : (c : Config) (start end : ℕ) (history : List Entry) (e : Entry) (r : Rule) → IsLegal c start end (history ++ e ∷ []) → lowest_broken c start end history e ≡ Some r → ⊥
none_from_longer c start end history e r legal lowest = false≢true (sym kept ∙ parts.1)
  where
    parts : (is_on_commands r ≡ true) × (breaks c start end r history e ≡ true)
    parts = and_parts _ _ (lowest_passes (λ q. is_on_commands q && breaks c start end q history e) r lowest)

    kept : breaks c start end r history e ≡ false
    kept =
        sym (ap (λ (o : Option Entry). breaks_where c start end (history ++ e ∷ []) o (length history) r) (slice_get-last history e (length history) refl)
        ∙ ap (λ (earlier : List Entry). breaks c start end r earlier e) (take_at history (e ∷ []) (length history) refl))
        ∙ legal (length history) r parts.0
