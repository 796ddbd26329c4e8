use Rattle.std.proofs.Common.{sym, ap, ◌∙◌}
use Rattle.std.specs.List.{list_any}
use Rattle.ddr_draw.specs.Sketch.{is_ended_by}
use Rattle.ddr_draw.proofs.KeptLemmas.{none_ended}
use Rattle.ddr_draw.proofs.kept_bars.end_bars.Goals as goal

pub returns-else-is_any_ended-clause-shown : goal.returns-else-is_any_ended-clause-shown
returns-else-is_any_ended-clause-shown c = λ v later within.
    none_ended c.args.config.now v c.args.bars.now.items c.args.entry.now later
    (ap (list_any (λ bar. is_ended_by bar.entry bar.next c.args.entry.now)) (sym c.as_slice.ensures.value) ∙ sym c.is_any_ended.ensures ∙ c.if-is_any_ended.false)
