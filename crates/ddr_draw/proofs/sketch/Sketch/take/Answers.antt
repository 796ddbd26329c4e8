use Rattle.std.proofs.Common.{◌+◌, ◌++◌, refl, ap, ◌∙◌}
use Rattle.ddr_draw.specs.Lanes.{command_at}
use Rattle.ddr_draw.specs.Sketch.{bar_by, boxes_of, next_ending}
use Rattle.ddr_draw.specs.declared.sketch.Sketch.{Sketch}
use Rattle.ddr_draw.proofs.KeptLemmas.{shows_more}
use Rattle.ddr_draw.proofs.sketch.Sketch.take.Goals as goal

pub returns-clause-shows : goal.returns-clause-shows
returns-clause-shows c = λ entries shows.
    let config = c.args.config.now in
    let e = c.args.entry.now in
    let new : Sketch = record { view = c.args.self.now.view; count = c.args.self.now.count + 1; recent = c.remember.new.recent; bars = c.add_bar.new.bars; boxes = c.add_box.new.boxes } in
    shows_more config c.args.self.now new e entries shows refl refl (c.in_ok-remember.ensures.last entries shows.last)
    (λ v later within. c.in_ok-add_bar.ensures.shown v later within ∙ ap (λ text. text ++ bar_by config v e (next_ending e later)) (c.in_ok-end_bars.ensures.shown v later within))
    (λ v within. c.in_ok-add_box.ensures.shown v entries within (rw c.as_slice-recent.ensures.value shows.last) shows.counted
    ∙ ap (λ n. boxes_of config v c.args.self.now.boxes.items ++ command_at config v entries n e) shows.counted)

pub returns-clause-small : goal.returns-clause-small
returns-clause-small c = λ small. record {
  recent = c.in_ok-remember.ensures.few small.recent;
  bars = c.in_ok-add_bar.ensures.kept (c.in_ok-end_bars.ensures.kept small.bars);
  boxes = c.in_ok-add_box.ensures.kept small.boxes;
}
