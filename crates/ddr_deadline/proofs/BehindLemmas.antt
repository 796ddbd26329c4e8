-- Distances behind the commands of a history.
use Rattle.std.proofs.Common.{◌≡◌, ℕ, zero, suc, ◌+◌, ◌≤◌, Bool, true, false, ◌&&◌, not, cond, max, eqb, ltb, List, [], ◌∷◌, ◌++◌, Option, Some, None, refl, ap, ◌∙◌, arith}
use Rattle.std.specs.List.{count_by, slice_get}
use Rattle.std.specs.Option.{is_some}
use Rattle.std.proofs.lemmas.Bool.{le-leb, le-ltb}
use Rattle.ddr_timing.specs.declared.timing.Timing.{Timing}
use Rattle.ddr_trace.specs.declared.bank.OpenBank.{OpenBank}
use Rattle.ddr_trace.specs.declared.command.Command.{Command}
use Rattle.ddr_trace.specs.declared.command.Entry.{Entry}
use Rattle.ddr_trace.specs.Banks.{auto_start, is_active, is_auto_within, is_before_start, ready_row, row_until, row_without}
use Rattle.ddr_trace.specs.Commands.{is_activate, is_column, is_same_rank}
use Rattle.ddr_trace.specs.Rules.{Spacing, breaks_faw, breaks_rtrs, breaks_spacing, rank_switch, speaks_of}
use Rattle.ddr_deadline.specs.Behind.{auto_behind, auto_from, behind, four_from, spaced_from, switched_from}

pub max_parts : (a b k : ℕ) → max a b ≤ k → (a ≤ k) × (b ≤ k)
max_parts a b k most = (omega (arith, most), omega (arith, most))

max_assoc : (a b c : ℕ) → max a (max b c) ≡ max (max a b) c
max_assoc a b c = omega arith

max_zeros : (a : ℕ) → max a 0 ≡ max 0 a
max_zeros a = omega arith

-- one more command
pub behind_append : (test : Command → Bool) (distance : Command → ℕ) (history : List Entry) (x : Entry) →
    behind test distance (history ++ x ∷ []) ≡ max (behind test distance history) (cond (test x.command) (x.cycle + distance x.command) 0)
behind_append test distance [] x = max_zeros (cond (test x.command) (x.cycle + distance x.command) 0)
behind_append test distance (a ∷ later) x =
    ap (λ n. max (cond (test a.command) (a.cycle + distance a.command) 0) n) (behind_append test distance later x)
    ∙ max_assoc (cond (test a.command) (a.cycle + distance a.command) 0) (behind test distance later) (cond (test x.command) (x.cycle + distance x.command) 0)

-- each command that passes
pub behind_each : (test : Command → Bool) (distance : Command → ℕ) (history : List Entry) (k : ℕ) → behind test distance history ≤ k →
    (i : ℕ) (a : Entry) → slice_get history i ≡ Some a → test a.command ≡ true → a.cycle + distance a.command ≤ k
behind_each test distance [] k most i a is passes = cc
behind_each test distance (e ∷ later) k most zero a is passes =
    let same : e ≡ a = cc in
    let here = (max_parts (cond (test e.command) (e.cycle + distance e.command) 0) (behind test distance later) k most).0 in
    let there : cond (test a.command) (a.cycle + distance a.command) 0 ≤ k = rw (← same) here in
    rw passes at there
behind_each test distance (e ∷ later) k most (suc i) a is passes =
    behind_each test distance later k (max_parts (cond (test e.command) (e.cycle + distance e.command) 0) (behind test distance later) k most).1 i a is passes

-- and no more than those
pub behind_most : (test : Command → Bool) (distance : Command → ℕ) (history : List Entry) (k : ℕ) →
    ((i : ℕ) (a : Entry) → slice_get history i ≡ Some a → test a.command ≡ true → a.cycle + distance a.command ≤ k) → behind test distance history ≤ k
behind_most test distance [] k each = omega arith
behind_most test distance (e ∷ later) k each =
    let rest = behind_most test distance later k (λ i a is. each (suc i) a is) in
    let here = by_test (test e.command) (λ passes. each 0 e refl passes) in
    omega (arith, rest, here)
  where
    by_test : (w : Bool) → (w ≡ true → e.cycle + distance e.command ≤ k) → cond w (e.cycle + distance e.command) 0 ≤ k
    by_test true at = at refl
    by_test false at = omega arith

-- a command is far enough from each of them

one_far : (w : Bool) (least now : ℕ) → cond w least 0 ≤ now → (w && ltb now least) ≡ false
one_far true least now far = le-ltb now least far
one_far false least now far = refl

pub spaced_far : (s : Spacing) (history : List Entry) (e : Entry) → spaced_from s e.command history ≤ e.cycle → breaks_spacing s history e ≡ false
spaced_far s [] e far = refl
spaced_far s (a ∷ later) e far =
    let parts = max_parts (cond (speaks_of s a.command e.command) (a.cycle + s.at_least) 0) (spaced_from s e.command later) e.cycle far in
    rw (one_far (speaks_of s a.command e.command) (a.cycle + s.at_least) e.cycle parts.0) (spaced_far s later e parts.1)

pub switched_far : (t : Timing) (history : List Entry) (e : Entry) → switched_from t e.command history ≤ e.cycle → breaks_rtrs t history e ≡ false
switched_far t [] e far = refl
switched_far t (a ∷ later) e far =
    let test = is_column a.command && is_column e.command && not (is_same_rank a.command e.command) in
    let parts = max_parts (cond test (a.cycle + rank_switch t a.command e.command) 0) (switched_from t e.command later) e.cycle far in
    rw (one_far test (a.cycle + rank_switch t a.command e.command) e.cycle parts.0) (switched_far t later e parts.1)

pub four_far : (t : Timing) (history : List Entry) (e : Entry) → four_from t e.command history ≤ e.cycle → breaks_faw t history e ≡ false
four_far t [] e far = refl
four_far t (a ∷ between) e far =
    let test = is_activate a.command && is_activate e.command && is_same_rank a.command e.command && eqb (count_by (λ m. is_activate m.command && is_same_rank m.command e.command) between) 3 in
    let parts = max_parts (cond test (a.cycle + t.faw) 0) (four_from t e.command between) e.cycle far in
    rw (one_far test (a.cycle + t.faw) e.cycle parts.0) (four_far t between e parts.1)

-- a bank with no row for reads and writes is idle, and its auto-precharge is over
pub idle_from : (t : Timing) (now : ℕ) (bank : Option OpenBank) → ready_row bank ≡ None → auto_from t bank ≤ now → (is_active t now bank ≡ false) × (is_auto_within t t.rp now bank ≡ false)
idle_from t now None none over = (refl, refl)
idle_from t now (Some bank) none over = by_auto bank.auto none over
  where
    by_auto : (auto : Option Entry) → row_without bank auto ≡ None → auto_behind t bank auto ≤ now → (is_some (row_until t now bank auto) ≡ false) × (is_before_start t t.rp now bank auto ≡ false)
    by_auto None row far = cc
    by_auto (Some a) row far = (rw (le-leb (auto_start t bank a) now (omega (arith, far))) refl, le-ltb now (auto_start t bank a + t.rp) far)
