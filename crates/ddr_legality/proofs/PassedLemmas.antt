-- The REFs that are counted of the next entry's rank.
use Rattle.std.proofs.Common.{◌≡◌, ◌≢◌, Bool, true, false, ◌==◌, if◌then◌else◌, List, refl, sym, subst, arith}
use Rattle.std.proofs.lemmas.Bool.{eqb-true}
use Rattle.std.proofs.lemmas.Bool.Decides.{nat_tests}
use Rattle.ddr_trace.specs.declared.command.Entry.{Entry}
use Rattle.ddr_trace.specs.Commands.{rank_of}
use Rattle.ddr_trace.specs.Rules.{is_in}
use Rattle.ddr_legality.specs.declared.one_pass.Checker.{Checker}
use Rattle.ddr_legality.specs.Refreshes.{HasCounted}
use Rattle.ddr_legality.specs.OnePass.{HasPassed, refreshes_of}
use Rattle.ddr_legality.proofs.RankLemmas.{second_rank}

pub counted_of : (s : Checker) (history : List Entry) (e : Entry) → HasPassed s history → is_in s.issued.config.geometry e.command ≡ true → HasCounted (rank_of e.command) (refreshes_of s (rank_of e.command)) history
counted_of s history e passed placed = by_rank (rank_of e.command == 0) refl
  where
    by_rank : (w : Bool) → (rank_of e.command == 0) ≡ w → HasCounted (rank_of e.command) (if w then s.first else s.second) history
    by_rank true is =
        let own : rank_of e.command ≡ 0 = eqb-true _ _ is in
        subst (λ n. HasCounted n s.first history) (sym own) passed.first
    by_rank false is =
        let apart : rank_of e.command ≢ 0 = grind (arith, nat_tests) in
        let own : rank_of e.command ≡ 1 = second_rank s.issued.config.geometry e.command placed apart in
        subst (λ n. HasCounted n s.second history) (sym own) passed.second
