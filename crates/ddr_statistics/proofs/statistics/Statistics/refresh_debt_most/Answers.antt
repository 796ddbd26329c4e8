-- The kept numbers are those of the history.
use Rattle.std.proofs.Common.{◌-◌, sym, subst, ap, arith, ◌∙◌}
use Rattle.std.specs.Prelude.{max}
use Rattle.std.proofs.lemmas.List.{get_or_default}
use Rattle.ddr_statistics.specs.declared.debt.Debt.{Debt}
use Rattle.ddr_statistics.specs.Debts.{debt_most, due_in}
use Rattle.ddr_statistics.specs.Noted.{no_debt}
use Rattle.ddr_statistics.specs.Stands.{StandsFor, debt_at}
use Rattle.ddr_statistics.specs.Tally.{Tally}
use Rattle.ddr_statistics.specs.View.{tally_of}
use Rattle.ddr_statistics.proofs.DebtLemmas.{most_told}
use Rattle.ddr_statistics.proofs.PlaceLemmas.{rank_fits}
use Rattle.ddr_statistics.proofs.statistics.Statistics.refresh_debt_most.Goals as goal

pub returns : goal.returns
returns c = record {
  counted = λ history stands short order.
      let a = tally_of c.self.inside in
      let here = subst (λ (t : Tally). StandsFor t history) (sym c.self.view_is) stands in
      let below = rank_fits c.args.self.now.geometry c.args.rank c.requires in
      let debt = debt_at a c.args.rank in
      let kept = get_or_default a.debts c.args.rank _ no_debt (omega (arith, here.debts_size, below)) in
      c.most.ensures
      ∙ ap (λ (d : Debt). max d.most (c.due_in-due.result - d.paid)) kept
      ∙ ap (λ n. max debt.most (n - debt.paid)) (c.due_in-due.ensures ∙ ap (due_in a.timing.refi a.start) c.saturating_sub.ensures)
      ∙ most_told a.timing.refi a.start c.args.rank a.timing.refi_range.0 c.args.end history debt (here.debts c.args.rank below) short order
      ∙ ap (λ (t : Tally). debt_most t.timing.refi t.start c.args.end c.args.rank history) c.self.view_is;
}
