-- The lines of a table, one more each time.
use Rattle.std.proofs.Common.{◌≡◌, ℕ, ◌+◌, ◌<◌, List, [], ◌∷◌, ◌++◌, length, take, get_or, sym, ap, ap₂, ◌∙◌}
use Rattle.std.specs.Prelude.{flat_map}
use Rattle.std.proofs.lemmas.List.{append-nil, take_more}
use Rattle.std.proofs.lemmas.List.Concat.{flat_map-append}
use Rattle.ddr_timing.specs.declared.config.Config.{Config}
use Rattle.ddr_trace.specs.declared.checker.Fault.{Fault}
use Rattle.ddr_trace.specs.declared.command.Entry.{Entry}
use Rattle.ddr_trace.specs.declared.rule.Rule.{Rule}
use Rattle.ddr_trace.specs.declared.rule.Rule.TheVariants as rule
use Rattle.ddr_trace.specs.declared.rule.TheConstants.Rule.{ALL}
use Rattle.ddr_explain.specs.Table.{AreLines, IsLine, IsTable}

lines_push : (c : Config) (start end : ℕ) (entries : List Entry) (faults : List Fault) (lines : List (List ℕ)) (fault : Fault) (line : List ℕ) → AreLines c start end entries faults lines → IsLine c start end entries fault line → AreLines c start end entries (faults ++ fault ∷ []) (lines ++ line ∷ [])
lines_push c start end entries [] [] fault line each here = (here, tt)
lines_push c start end entries [] (first ∷ lines) fault line each here = absurd each
lines_push c start end entries (first ∷ faults) [] fault line each here = absurd each
lines_push c start end entries (first ∷ faults) (head ∷ lines) fault line each here = (each.0, lines_push c start end entries faults lines fault line each.1 here)

-- no line yet
pub table_open : (c : Config) (start end : ℕ) (entries : List Entry) (text : List ℕ) → text ≡ [] → IsTable c start end entries [] text
table_open c start end entries text empty = record { lines = []; each = tt; whole = empty }

-- the line of the next fault
pub table_more : (c : Config) (start end : ℕ) (entries : List Entry) (faults : List Fault) (i : ℕ) (d : Fault) (text new line : List ℕ) → i < length faults → IsTable c start end entries (take i faults) text → IsLine c start end entries (get_or faults i d) line → new ≡ text ++ line
    → IsTable c start end entries (take (i + 1) faults) new
table_more c start end entries faults i d text new line within so_far here added = rw (take_more faults i d within) (record {
  lines = so_far.lines ++ line ∷ [];
  each = lines_push c start end entries (take i faults) so_far.lines (get_or faults i d) line so_far.each here;
  whole = added ∙ ap (λ t. t ++ line) so_far.whole ∙ ap (λ t. flat_map (λ l. l) so_far.lines ++ t) (sym (append-nil line))
      ∙ sym (flat_map-append (λ l. l) so_far.lines (line ∷ []));
})

-- the comment of the next rule
pub counts_more : (f : Rule → List ℕ) (i : ℕ) (old new line : List ℕ) → i < length ALL → new ≡ old ++ line → line ≡ f (get_or ALL i rule.Order) → old ≡ flat_map f (take i ALL) → new ≡ flat_map f (take (i + 1) ALL)
counts_more f i old new line within added here so_far =
    added ∙ ap₂ ◌++◌ so_far (here ∙ sym (append-nil (f (get_or ALL i rule.Order))))
    ∙ sym (flat_map-append f (take i ALL) (get_or ALL i rule.Order ∷ []))
    ∙ ap (flat_map f) (sym (take_more ALL i rule.Order within))
