-- The REFs that are counted, as the trace grows by an entry.
use Rattle.std.proofs.Common.{◌≡◌, ℕ, ◌+◌, ◌*◌, ◌<◌, ◌≤◌, ◌^◌, ◌⊎◌, inl, inr, Bool, true, false, ◌&&◌, ◌||◌, ◌==◌, nat_lt, List, [], ◌∷◌, ◌++◌, Some, min, cond, count_by, refl, sym, ap, arith, ◌∙◌}
use Rattle.std.proofs.lemmas.List.Sums.{sum_by-append}
use Rattle.std.proofs.Math.Nat.{le-mul_of_pos_right}
use Rattle.std.proofs.lemmas.Bool.{cases_lt, eqb-true}
use Rattle.std.proofs.lemmas.Bool.Decides.{nat_tests}
use Rattle.ddr_timing.specs.declared.config.Config.{Config}
use Rattle.ddr_timing.specs.declared.timing.Timing.{Timing}
use Rattle.ddr_trace.specs.declared.command.Entry.{Entry}
use Rattle.ddr_trace.specs.Commands.{is_refresh, rank_of}
use Rattle.ddr_trace.specs.declared.command.Command.TheVariants.{Refresh}
use Rattle.ddr_trace.specs.Rules.{breaks_ref_gap, ends_late, refresh_count}
use Rattle.ddr_trace.proofs.WindowLemmas.{gap_here, gap_skip, no_ref_gap}
use Rattle.ddr_rank.specs.Stands.{is_of_rank}
use Rattle.ddr_legality.specs.declared.refreshes.Refreshes.{Refreshes}
use Rattle.ddr_legality.specs.Refreshes.{HasCounted, MOST_COUNTED}
use Rattle.ddr_legality.proofs.RankLemmas.{same_rank}

counted_yes : {X : Type 0} (p : X → Bool) (xs : List X) (x : X) → p x ≡ true → count_by p (xs ++ x ∷ []) ≡ count_by p xs + 1
counted_yes p xs x h = sum_by-append (λ y. cond (p y) 1 0) xs (x ∷ []) ∙ rw h (omega arith)

counted_no : {X : Type 0} (p : X → Bool) (xs : List X) (x : X) → p x ≡ false → count_by p (xs ++ x ∷ []) ≡ count_by p xs
counted_no p xs x h = sum_by-append (λ y. cond (p y) 1 0) xs (x ∷ []) ∙ rw h (omega arith)

module _ (rank : ℕ) (history : List Entry) (x : Entry) where
  -- a REF of the rank
  gap_after : (t : Timing) (e : Entry) → rank_of x.command ≡ rank → rank_of e.command ≡ rank → is_refresh x.command ≡ true → (w : Bool) → is_refresh e.command ≡ w
      → breaks_ref_gap t (history ++ x ∷ []) e ≡ (w && nat_lt (x.cycle + 9 * t.refi) e.cycle)
  gap_after t e here there ref true now = sym (gap_here t e (history ++ x ∷ []) (history ++ x ∷ []) history x refl refl (sym now) (rw (ref, here, there, same_rank rank) refl))
  gap_after t e here there ref false other = sym (no_ref_gap t (history ++ x ∷ []) e (sym other))

  pub counted_refresh : (r : Refreshes) → HasCounted rank r history → rank_of x.command ≡ rank → is_refresh x.command ≡ true → HasCounted rank (record { count = min (r.count + 1) MOST_COUNTED; last = Some x.cycle }) (history ++ x ∷ [])
  counted_refresh r kept here ref = record {
    count = rw (counted_yes (λ a. is_refresh a.command && rank_of a.command == rank) history x (rw (ref, here, same_rank rank) refl)) (omega (arith, kept.count));
    gap = λ t e there. gap_after t e here there ref (is_refresh e.command) refl;
  }

  -- an entry that is no REF of the rank
  pub counted_other : (r : Refreshes) → HasCounted rank r history → (is_refresh x.command && rank_of x.command == rank) ≡ false → HasCounted rank r (history ++ x ∷ [])
  counted_other r kept other = record {
    count = kept.count ∙ ap (λ n. min n MOST_COUNTED) (sym (counted_no (λ a. is_refresh a.command && rank_of a.command == rank) history x other));
    gap = λ t e there. gap_skip t e (history ++ x ∷ []) (history ++ x ∷ []) history x refl refl (rw there (sym other)) ∙ kept.gap t e there;
  }

  pub counted_elsewhere : (r : Refreshes) → HasCounted rank r history → is_of_rank rank x.command ≡ false → HasCounted rank r (history ++ x ∷ [])
  counted_elsewhere r kept other = counted_other r kept (rw other (off (is_refresh x.command)))
    where
      off : (b : Bool) → (b && false) ≡ false
      off true = refl
      off false = refl

-- the deadline of the REF that a rank would need next is past
abbrev pub is_late : Timing → ℕ → ℕ → List Entry → ℕ → Bool
is_late t start end history rank =
    nat_lt (start + (refresh_count history (Refresh rank) + 9) * t.refi) end

-- the end is looked at for rank 0, and for rank 1 where there is one
pub ends_told : (c : Config) (start end : ℕ) (history : List Entry) → ends_late c start end history ≡ (is_late c.timing start end history 0 || (c.geometry.ranks == 2 && is_late c.timing start end history 1))
ends_told c start end history = by_ranks (c.geometry.ranks == 2) refl
  where
    or_false : (b : Bool) → (b || false) ≡ b
    or_false true = refl
    or_false false = refl

    by_ranks : (w : Bool) → (c.geometry.ranks == 2) ≡ w → ends_late c start end history ≡ (is_late c.timing start end history 0 || (w && is_late c.timing start end history 1))
    by_ranks true is =
        let two : c.geometry.ranks ≡ 2 = eqb-true _ _ is in
        rw two (ap (λ b. is_late c.timing start end history 0 || b) (or_false (is_late c.timing start end history 1)))
    by_ranks false is =
        let one : c.geometry.ranks ≡ 1 = grind (arith, nat_tests, c.geometry.ranks_range) in
        rw one refl

-- Behind as many REFs as are counted, no deadline is past.
pub overdue_counted : (t : Timing) (start count cycle : ℕ) → cycle < 2 ^ 64 → nat_lt (start + (min count MOST_COUNTED + 9) * t.refi) cycle ≡ nat_lt (start + (count + 9) * t.refi) cycle
overdue_counted t start count cycle within = by_size (cases_lt count (2 ^ 64))
  where
    ahead : (n : ℕ) → 2 ^ 64 ≤ n + 9 → nat_lt (start + (n + 9) * t.refi) cycle ≡ false
    ahead n many =
        let far : n + 9 ≤ (n + 9) * t.refi = le-mul_of_pos_right (n + 9) t.refi_range.0 in
        let behind : cycle ≤ start + (n + 9) * t.refi = omega arith in
        grind (arith, nat_tests)

    by_size : (count < 2 ^ 64) ⊎ (2 ^ 64 ≤ count) → nat_lt (start + (min count MOST_COUNTED + 9) * t.refi) cycle ≡ nat_lt (start + (count + 9) * t.refi) cycle
    by_size (inl few) =
        let same : min count MOST_COUNTED ≡ count = omega arith in
        ap (λ n. nat_lt (start + (n + 9) * t.refi) cycle) same
    by_size (inr many) = ahead (min count MOST_COUNTED) (omega arith) ∙ sym (ahead count (omega arith))
