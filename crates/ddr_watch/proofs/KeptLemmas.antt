-- One command more of a channel of which the newest are kept.
use Rattle.std.proofs.Common.{◌≡◌, ℕ, ◌+◌, ◌≤◌, List, [], ◌∷◌, ◌++◌, length, take, drop, sym, ap, ◌∙◌, arith, append_assoc, length-append, length-drop}
use Rattle.std.proofs.lemmas.List.{length-take, take-append-drop}
use Rattle.ddr_trace.specs.declared.command.Entry.{Entry}
use Rattle.ddr_watch.specs.declared.recent.Recent.{Recent}
use Rattle.ddr_watch.specs.declared.recent.TheConstants.{FEWEST_KEPT}
use Rattle.ddr_watch.specs.Kept.{AreLast}

-- before the first
pub last_none : (r : Recent) → r.first ≡ 0 → r.entries.items ≡ [] → AreLast r []
last_none r none empty = record {
  before = [];
  whole = sym empty;
  many = sym none;
  enough = λ some. absurd (some none);
}

-- and all are kept
pub last_more : (r s : Recent) (history : List Entry) (e : Entry) → AreLast r history → s.first ≡ r.first → s.entries.items ≡ r.entries.items ++ e ∷ [] → AreLast s (history ++ e ∷ [])
last_more r s history e last same grown = record {
  before = last.before;
  whole = ap (λ es. es ++ e ∷ []) last.whole ∙ append_assoc last.before r.entries.items (e ∷ []) ∙ ap (λ es. last.before ++ es) (sym grown);
  many = last.many ∙ sym same;
  enough = λ some.
      let before = last.enough (λ none. some (same ∙ none)) in
      let longer = ap length grown ∙ length-append r.entries.items (e ∷ []) in
      omega (arith, before, longer);
}

-- and the oldest are let go
pub last_cut : (r s : Recent) (n : ℕ) (history : List Entry) → AreLast r history → FEWEST_KEPT + n ≤ length r.entries.items → s.first ≡ r.first + n → s.entries.items ≡ drop n r.entries.items → AreLast s history
last_cut r s n history last many on cut = record {
  before = last.before ++ take n r.entries.items;
  whole =
      last.whole
      ∙ ap (λ es. last.before ++ es) (sym (take-append-drop n r.entries.items))
      ∙ sym (append_assoc last.before (take n r.entries.items) (drop n r.entries.items))
      ∙ ap (λ es. (last.before ++ take n r.entries.items) ++ es) (sym cut);
  many =
      let all = length-append last.before (take n r.entries.items) in
      let some = length-take n r.entries.items in
      let before = last.many in
      omega (arith, all, some, before, on, many);
  enough = λ _.
      let longer = ap length cut in
      let rest = length-drop n r.entries.items in
      omega (arith, longer, rest, many);
}

-- how many there are
pub last_count : (r : Recent) (history : List Entry) → AreLast r history → r.first + length r.entries.items ≡ length history
last_count r history last =
    let all = ap length last.whole ∙ length-append last.before r.entries.items in
    let before = last.many in
    omega (arith, all, before)
