-- One more entry.
use Rattle.std.proofs.Common.{◌≡◌, ℕ, ◌+◌, ◌<◌, ◌≤◌, Bool, true, false, List, ◌∷◌, [], ◌++◌, nat_lt, ltb-true, ltb-false, get_or, length, max, take, sym, ap, subst, refl, arith, rules, ◌∙◌}
use Rattle.std.specs.List.{All, slice_index_or}
use Rattle.std.proofs.lemmas.List.{get_or_append_left, get_or_push, length_push}
use Rattle.std.proofs.lemmas.List.Elements.{All-more, All-weaker}
use Rattle.std.proofs.lemmas.List.Sums.{fold_more}
use Rattle.ddr_trace.specs.declared.command.Entry.{Entry}
use Rattle.ddr_evidence.specs.Recent.{greatest_cycle}
use Rattle.ddr_evidence.proofs.broken.reach_of.Goals as goal

greatest_more : (entries : List Entry) (n : ℕ) (d : Entry) (old most : ℕ) → n < length entries → All (λ (a : Entry). a.cycle ≤ old) (take n entries) → most ≡ max old (get_or entries n d).cycle → All (λ (a : Entry). a.cycle ≤ most) (take (n + 1) entries)
greatest_more entries n d old most within so_far is =
    All-more (λ (a : Entry). a.cycle ≤ most) entries n d within
    (All-weaker (λ (a : Entry). a.cycle ≤ old) (λ (a : Entry). a.cycle ≤ most) (λ a low. omega (arith, low, is)) (take n entries) so_far) (omega (arith, is))

most_more : (entries : List Entry) (n : ℕ) (d : Entry) (old most : ℕ) → n < length entries → old ≡ greatest_cycle (take n entries) → most ≡ max old (get_or entries n d).cycle → most ≡ greatest_cycle (take (n + 1) entries)
most_more entries n d old most within so_far is =
    is
    ∙ ap (λ (greatest : ℕ). max greatest (get_or entries n d).cycle) so_far
    ∙ sym (fold_more (λ greatest (a : Entry). max greatest a.cycle) 0 entries n d within)

-- what is so of what was pushed, at its place, and of each place before
each_more : (P : ℕ → ℕ → Type 0) (old new : List ℕ) (n place most : ℕ) → length old ≡ n → new ≡ old ++ most ∷ [] → P n most → ((k : ℕ) → k < n → P k (slice_index_or old k 0)) → place < n + 1 → P place (slice_index_or new place 0)
each_more P old new n place most long pushed last so_far below = go (nat_lt place n) refl
  where
    go : (b : Bool) → nat_lt place n ≡ b → P place (slice_index_or new place 0)
    go true less =
        let under = ltb-true place n less in
        let same : get_or old place 0 ≡ get_or new place 0 = sym (ap (λ xs. get_or xs place 0) pushed ∙ get_or_append_left old (most ∷ []) 0 place (omega (arith, long, under))) in
        subst (λ top. P place top) same (so_far place under)
    go false even =
        let over = ltb-false place n even in
        let here : place ≡ n = omega (arith, over, below) in
        let same : most ≡ get_or new place 0 = sym (ap (λ xs. get_or xs place 0) pushed ∙ get_or_push old most 0 place (long ∙ sym here)) in
        subst (λ top. P place top) same (subst (λ k. P k most) (sym here) last)

pub loop-entry-preserved : goal.loop-entry-preserved
loop-entry-preserved c =
    let now = c.loop-entry.invariant in
    let n = c.loop-entry.entry-index in
    let entries = c.args.entries.now in
    let most = c.max-greatest.result in
    let pushed : c.push_reserved.new.self.items ≡ c.loop-entry.reach.items ++ most ∷ [] = search rules in
    let greatest = greatest_more entries n _ c.loop-entry.greatest most c.loop-entry-test.true now.greatest c.max-greatest.ensures in
    let all : most ≡ greatest_cycle (take (n + 1) entries) = most_more entries n _ c.loop-entry.greatest most c.loop-entry-test.true now.most c.max-greatest.ensures in
    let longer = length_push c.loop-entry.reach.items most in
    let long : length c.push_reserved.new.self.items ≡ n + 1 = ap length pushed ∙ longer ∙ ap (λ k. k + 1) now.long in
    record {
      room = let room = now.room in let same = c.push_reserved.ensures.capacity in omega (arith, room, same);
      long = long;
      greatest = greatest;
      most = all;
      each = λ place below. each_more (λ k top. top ≡ greatest_cycle (take (k + 1) entries)) c.loop-entry.reach.items c.push_reserved.new.self.items n place most now.long pushed all now.each below;
      above = λ place below. each_more (λ k top. All (λ (a : Entry). a.cycle ≤ top) (take (k + 1) entries)) c.loop-entry.reach.items c.push_reserved.new.self.items n place most now.long pushed greatest now.above below;
    }
