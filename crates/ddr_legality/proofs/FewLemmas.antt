-- No more commands than cycles.
use Rattle.std.proofs.Common.{◌≡◌, ℕ, ◌+◌, ◌≤◌, true, nat_lt, List, [], ◌∷◌, ◌++◌, sym, ◌∙◌, arith}
use Rattle.std.proofs.lemmas.Bool.Decides.{nat_tests}
use Rattle.std.proofs.lemmas.List.{length_push}
use Rattle.ddr_timing.specs.declared.units.TheConstants.{CLOCK_STOP}
use Rattle.ddr_trace.specs.declared.command.Entry.{Entry}
use Rattle.ddr_trace.specs.Rules.{last_cycle_below}
use Rattle.ddr_trace.proofs.WindowLemmas.{last_cycle_below-append}
use Rattle.ddr_rank.specs.Stands.{IsAfter}
use Rattle.ddr_legality.specs.View.{IsFew}

pub few_none : IsFew []
few_none = λ cycle after. omega arith

below : (m n : ℕ) → nat_lt m n ≡ true → m + 1 ≤ n
below m n is = grind (arith, nat_tests)

tested : (m n : ℕ) → m + 1 ≤ n → nat_lt m n ≡ true
tested m n is = grind (arith, nat_tests)

pub few_more : (h : List Entry) (e : Entry) → IsFew h → IsAfter h e.cycle → IsFew (h ++ e ∷ [])
few_more h e few after = λ n is.
    let late = below e.cycle n (sym (last_cycle_below-append h e n) ∙ is) in
    omega (arith, few e.cycle after, late, length_push h e)

pub reach_more : (h : List Entry) (e : Entry) → e.cycle ≤ CLOCK_STOP → last_cycle_below (h ++ e ∷ []) (CLOCK_STOP + 1) ≡ true
reach_more h e early = last_cycle_below-append h e (CLOCK_STOP + 1) ∙ tested e.cycle (CLOCK_STOP + 1) (omega (arith, early))
