-- The kept clocks are those of the history.
use Rattle.std.proofs.Common.{sym, subst, ap, arith, ◌∙◌}
use Rattle.std.proofs.lemmas.List.{get_or_default}
use Rattle.ddr_statistics.specs.declared.background.Background.{Background}
use Rattle.ddr_statistics.specs.Background.{refresh_clocks}
use Rattle.ddr_statistics.specs.Noted.{refresh_to, new_background}
use Rattle.ddr_statistics.specs.Stands.{StandsFor}
use Rattle.ddr_statistics.specs.Tally.{Tally}
use Rattle.ddr_statistics.specs.View.{tally_of}
use Rattle.ddr_statistics.proofs.BackgroundLemmas.{clocks_told}
use Rattle.ddr_statistics.proofs.PlaceLemmas.{rank_fits}
use Rattle.ddr_statistics.proofs.statistics.Statistics.refresh_clocks.Goals as goal

pub returns : goal.returns
returns c = record {
  counted = λ history stands order.
      let a = tally_of c.self.inside in
      let end = c.args.end in
      let here = subst (λ (t : Tally). StandsFor t history) (sym c.self.view_is) stands in
      let below = rank_fits c.args.self.now.geometry c.args.rank c.requires in
      let kept = get_or_default a.backgrounds c.args.rank _ (new_background a.start) (omega (arith, here.backgrounds_size, below)) in
      c.refresh_to.ensures
      ∙ ap (λ (b : Background). refresh_to b end) kept
      ∙ (clocks_told a.timing a.geometry a.start c.args.rank end history _ (here.backgrounds c.args.rank below) order (omega arith)).1
      ∙ ap (λ (t : Tally). refresh_clocks t.timing t.geometry t.start end c.args.rank history) c.self.view_is;
}
