-- The rest of the trace's cycles.
use Rattle.std.proofs.Common.{arith, ap, ◌∙◌, ◌-◌}
use Rattle.ddr_statistics.proofs.BackgroundLemmas.{idle_told}
use Rattle.ddr_statistics.proofs.statistics.Statistics.idle_clocks.Goals as goal

pub returns : goal.returns
returns c = record {
  counted = λ history stands order.
      let t = c.args.self.now in
      c.saturating_sub.ensures
      ∙ ap (λ n. n - c.saturating_add-busy.result) c.cycles.ensures
      ∙ ap (λ n. (c.args.end - t.start) - n) c.saturating_add-busy.ensures
      ∙ idle_told t.timing t.geometry t.start c.args.end c.args.rank history c.active_clocks.result c.refresh_clocks.result
      (c.active_clocks.ensures.counted history stands order) (c.refresh_clocks.ensures.counted history stands order) (omega arith);
}
