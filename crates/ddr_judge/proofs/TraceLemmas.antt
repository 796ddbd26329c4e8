-- A trace that grows by an entry: what is told of its places stays, and is told of the new one, wherever the trace ends.
use Rattle.std.proofs.Common.{◌≡◌, ℕ, ◌<◌, Bool, false, ◌&&◌, not, nat_le, List, [], ◌∷◌, ◌++◌, length, take, get_or, Option, Some, None, refl, sym, ap, subst, ◌∙◌, arith}
use Rattle.std.specs.List.{slice_get}
use Rattle.std.proofs.lemmas.Bool.{lt-ltb}
use Rattle.std.proofs.lemmas.List.{get_or_append_left, get_or_push, length_push, take-append-le, take_at}
use Rattle.std.proofs.lemmas.Option.{slice_get-get_or}
use Rattle.ddr_timing.specs.declared.config.Config.{Config}
use Rattle.ddr_trace.specs.declared.command.Entry.{Entry}
use Rattle.ddr_trace.specs.declared.rule.Rule.{Rule}
use Rattle.ddr_trace.specs.declared.rule.Rule.TheVariants as rule
use Rattle.ddr_trace.specs.Rules.{breaks, last_cycle_below}
use Rattle.ddr_trace.specs.Legality.{IsFirstFault, breaks_at, breaks_where, lowest_rule}
use Rattle.ddr_trace.proofs.FaultLemmas.{IsCleanBelow, clean_more, first_at_entry}
use Rattle.ddr_trace.proofs.LowestLemmas.{lowest_rule-alike, none_broken}
use Rattle.ddr_judge.specs.Records.{AllBelow}

-- whether an entry breaks a rule doesn't hang on the trace's end, as long as it stands before it
pub free_of_end : (c : Config) (start end other : ℕ) (history : List Entry) (e : Entry) → e.cycle < end → e.cycle < other → (r : Rule) → breaks c start end r history e ≡ breaks c start other r history e
free_of_end c start end other history e below early rule.Order =
    ap (λ (b : Bool). not (last_cycle_below history e.cycle && nat_le start e.cycle && b)) (lt-ltb e.cycle end below ∙ sym (lt-ltb e.cycle other early))
free_of_end c start end other history e below early r = refl

pub below_parts : (end : ℕ) (es : List Entry) (x : Entry) → AllBelow end (es ++ x ∷ []) → AllBelow end es × (x.cycle < end)
below_parts end [] x below = (tt, below.0)
below_parts end (e ∷ es) x below =
    let rest = below_parts end es x below.1 in
    ((below.0, rest.0), rest.1)

-- an item of a list that grows stays at its place
pub kept_at : {X : Type 0} (xs : List X) (x : X) (place : ℕ) → place < length xs → slice_get (xs ++ x ∷ []) place ≡ slice_get xs place
kept_at xs x place before =
    slice_get-get_or (xs ++ x ∷ []) place x (omega (arith, length_push xs x))
    ∙ ap (λ y. Some y) (get_or_append_left xs (x ∷ []) x place before)
    ∙ sym (slice_get-get_or xs place x before)

pub last_at : {X : Type 0} (xs : List X) (x : X) → slice_get (xs ++ x ∷ []) (length xs) ≡ Some x
last_at xs x =
    slice_get-get_or (xs ++ x ∷ []) (length xs) x (omega (arith, length_push xs x))
    ∙ ap (λ y. Some y) (get_or_push xs x x (length xs) refl)

module _ (c : Config) (start end : ℕ) (es : List Entry) (x : Entry) where
  same_place : (place : ℕ) (r : Rule) → place < length es → breaks_at c start end (es ++ x ∷ []) place r ≡ breaks_at c start end es place r
  same_place place r before =
      let there = slice_get-get_or es place x before in
      ap (λ (o : Option Entry). breaks_where c start end (es ++ x ∷ []) o place r) (kept_at es x place before ∙ there)
      ∙ ap (λ (h : List Entry). breaks c start end r h (get_or es place x)) (take-append-le place es (x ∷ []) (omega arith))
      ∙ sym (ap (λ (o : Option Entry). breaks_where c start end es o place r) there)

  stays_clean : IsCleanBelow c start end es (length es) → IsCleanBelow c start end (es ++ x ∷ []) (length es)
  stays_clean clean = λ place r before. same_place place r before ∙ clean place r before

  within : length es < length (es ++ x ∷ [])
  within = omega (arith, length_push es x)

  at_new : (r : Rule) → breaks c start end r (take (length es) (es ++ x ∷ [])) (get_or (es ++ x ∷ []) (length es) x) ≡ breaks c start end r es x
  at_new r =
      ap (λ (h : List Entry). breaks c start end r h (get_or (es ++ x ∷ []) (length es) x)) (take_at es (x ∷ []) (length es) refl)
      ∙ ap (λ (e : Entry). breaks c start end r es e) (get_or_push es x x (length es) refl)

  -- an entry that breaks no rule
  pub clean_longer : IsCleanBelow c start end es (length es) → ((r : Rule) → breaks c start end r es x ≡ false) → IsCleanBelow c start end (es ++ x ∷ []) (length (es ++ x ∷ []))
  clean_longer clean none =
      subst (λ n. IsCleanBelow c start end (es ++ x ∷ []) n) (sym (length_push es x))
      (clean_more c start end (es ++ x ∷ []) (length es) x within (stays_clean clean) (λ r. at_new r ∙ none r))

  -- the first entry that breaks one
  pub fault_here : IsCleanBelow c start end es (length es) → (r : Rule) → lowest_rule (λ q. breaks c start end q es x) ≡ Some r → IsFirstFault c start end (es ++ x ∷ []) (length es) r
  fault_here clean r lowest =
      first_at_entry c start end (es ++ x ∷ []) (length es) x r (λ q. breaks c start end q es x) within (stays_clean clean) at_new lowest

  -- an entry behind the first fault
  pub fault_stays : (place : ℕ) (r : Rule) → place < length es → IsFirstFault c start end es place r → IsFirstFault c start end (es ++ x ∷ []) place r
  fault_stays place r before fault = record {
    lowest = lowest_rule-alike _ _ (λ q. same_place place q before) ∙ fault.lowest;
    first = λ earlier q below. same_place earlier q (omega arith) ∙ fault.first earlier q below;
  }

  -- the same, told of the entry with another end
  pub clean_by : (other : ℕ) → x.cycle < end → x.cycle < other → IsCleanBelow c start end es (length es) → None ≡ lowest_rule (λ q. breaks c start other q es x) → IsCleanBelow c start end (es ++ x ∷ []) (length (es ++ x ∷ []))
  clean_by other below early clean none =
      clean_longer clean (λ r. free_of_end c start end other es x below early r ∙ none_broken _ (sym none) r)

  pub fault_by : (other : ℕ) → x.cycle < end → x.cycle < other → IsCleanBelow c start end es (length es) → (r : Rule) → Some r ≡ lowest_rule (λ q. breaks c start other q es x) → IsFirstFault c start end (es ++ x ∷ []) (length es) r
  fault_by other below early clean r lowest =
      fault_here clean r (lowest_rule-alike _ _ (free_of_end c start end other es x below early) ∙ sym lowest)
